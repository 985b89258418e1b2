-- `panel_lines::split::take_line` meets its contract.
use Prim.Native.Nat.{◌≤◌}
use mathlib.Core.Path.{◌≡◌}
use lib.ListN.{take, drop}
use Rattle.panel_lines.specs.Split.{most_held}
use Rattle.panel_lines.specs.inner.Steps.{step_of}
use Rattle.panel_lines.proofs.split.take_line.Given as goal

abbrev pub invariant-loop-i : goal.invariant-loop-i
invariant-loop-i l = (l.n ≤ most_held) × (step_of (take l.n l.line) l.i (drop l.i l.chunk) ≡ step_of (take l.held l.initial.line) l.at (drop l.at l.chunk))
