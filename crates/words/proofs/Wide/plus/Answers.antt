-- `words::Wide::plus` meets its contract.
use Rattle.std.proofs.Common.{arith}
use Rattle.words.specs.Wide.{two_words}
use Rattle.words.proofs.Wide.plus.Goals as goal

pub overflow_add-result : goal.overflow_add-result
unfolding two_words
overflow_add-result c = grind arith

pub returns : goal.returns
unfolding two_words
returns c = grind arith
