-- `words::in_range` meets its contract.
use Rattle.std.proofs.Common.{arith}
use Rattle.std.proofs.lemmas.Grind.{common_steps}
use Rattle.words.specs.Num.{in_range}
use Rattle.words.proofs.in_range.Goals as goal

pub returns-then-x : goal.returns-then-x
unfolding in_range
returns-then-x c = grind (arith, common_steps)

pub returns-else-x : goal.returns-else-x
unfolding in_range
returns-else-x c = grind (arith, common_steps)
