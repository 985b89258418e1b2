-- `sums::counts_at` meets its contract.
use Rattle.std.proofs.Common.{arith}
use Rattle.std.proofs.lemmas.Grind.{common_steps}
use Rattle.sums.specs.Terms.{counted}
use Rattle.sums.proofs.counts_at.Goals as goal

pub returns-then-every : goal.returns-then-every
unfolding counted
returns-then-every c = grind (arith, common_steps)

pub returns-else-every : goal.returns-else-every
unfolding counted
returns-else-every c = grind (arith, common_steps)
