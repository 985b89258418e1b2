-- `estimates::standard::standard_sum` meets its contract.
use Prim.Native.Nat.{◌-◌}
use mathlib.Core.Path.{◌≡◌}
use Rattle.layout.specs.Slices.{view}
use Rattle.layout.specs.Lending.{lent_read}
use Rattle.sums.proofs.Steps.{summed}
use Rattle.estimates.specs.Sums.{own_at}
use Rattle.estimates.proofs.standard.standard_sum.Given as goal

abbrev pub invariant-loop-l : goal.invariant-loop-l
invariant-loop-l l = l.sum ≡ summed l.g l.every (own_at (view (lent_read l.state))) (l.layers - l.l) l.l
