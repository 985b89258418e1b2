-- `panel_lines::line::fill` meets its contract.
use Prim.Native.Nat.{◌+◌, ◌-◌, ◌*◌}
use mathlib.Core.Path.{◌≡◌}
use lib.Seq.{sets}
use Rattle.panel_lines.specs.Line.{halves}
use Rattle.panel_lines.proofs.line.fill.Given as goal

abbrev pub invariant-loop-k : goal.invariant-loop-k
invariant-loop-k l = sets l.words (2 * l.k + 2) (halves l.s (l.at + 36 * l.k) (l.n - l.k)) ≡ sets l.initial.words 2 (halves l.s l.at l.n)
