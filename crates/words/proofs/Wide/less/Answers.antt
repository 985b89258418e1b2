-- `words::Wide::less` meets its contract.
use Rattle.std.proofs.Common.{arith}
use Rattle.words.specs.Wide.{two_words}
use Rattle.words.proofs.Wide.less.Goals as goal

pub overflow_sub-result : goal.overflow_sub-result
unfolding two_words
overflow_sub-result c = grind arith

pub returns : goal.returns
unfolding two_words
returns c = grind arith
