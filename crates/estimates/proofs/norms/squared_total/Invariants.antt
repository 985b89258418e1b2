-- `estimates::norms::squared_total` meets its contract.
use mathlib.Core.Path.{◌≡◌}
use Rattle.estimates.specs.Norms.{squared_below}
use Rattle.estimates.specs.Calls.{norm_state}
use Rattle.estimates.proofs.norms.squared_total.Given as goal

abbrev pub invariant-loop-l : goal.invariant-loop-l
invariant-loop-l l = l.sum ≡ squared_below (norm_state l.fn.header l.norms) l.l
