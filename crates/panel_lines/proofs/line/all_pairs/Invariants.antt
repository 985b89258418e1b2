-- `panel_lines::line::all_pairs` meets its contract.
use Prim.Native.Nat.{◌+◌, ◌-◌, ◌*◌}
use mathlib.Core.Path.{◌≡◌}
use Rattle.panel_lines.specs.Line.{all_pairs}
use Rattle.panel_lines.proofs.line.all_pairs.Given as goal

abbrev pub invariant-loop-k : goal.invariant-loop-k
invariant-loop-k l = all_pairs l.s (l.at + 36 * l.k) (l.n - l.k) ≡ all_pairs l.s l.at l.n
