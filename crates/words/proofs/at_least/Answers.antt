-- `words::at_least` meets its contract.
use Rattle.std.proofs.Common.{arith}
use Rattle.std.proofs.lemmas.Grind.{common_steps}
use Rattle.words.specs.Wide.{two_words}
use Rattle.words.proofs.at_least.Goals as goal

pub returns-then-hi-gt0 : goal.returns-then-hi-gt0
unfolding two_words
returns-then-hi-gt0 c = grind (arith, common_steps)

pub returns-else-hi-gt0 : goal.returns-else-hi-gt0
unfolding two_words
returns-else-hi-gt0 c = grind (arith, common_steps)
