-- `sums::join` meets its contract.
use Rattle.std.proofs.Common.{arith}
use Rattle.std.proofs.lemmas.Grind.{common_steps}
use Rattle.sums.specs.inner.Up.{joined_sums}
use Rattle.sums.proofs.join.Goals as goal

pub returns-then-last : goal.returns-then-last
unfolding joined_sums
returns-then-last c = grind (arith, common_steps)

pub returns-else-last : goal.returns-else-last
unfolding joined_sums
returns-else-last c = grind (arith, common_steps)
