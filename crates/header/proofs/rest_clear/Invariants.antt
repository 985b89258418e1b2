-- `header::rest_clear` meets its contract.
use Rattle.std.proofs.Common.{ℕ, ◌-◌}
use Rattle.header.proofs.Sweeps.{Sweep}
use Rattle.header.specs.Shape.{max_layers}
use Rattle.header.specs.Header.{lens_from}
use Rattle.header.proofs.rest_clear.Given as goal

abbrev pub invariant-loop-l : goal.invariant-loop-l
invariant-loop-l l = (size : ℕ) → Sweep (lens_from l.layers size l.lens l.flags) (max_layers - l.layers) l.layers l.l l.clear
