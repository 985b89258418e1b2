-- `lines_test::take_chunk` meets its contract.
use Prim.Native.Nat.{◌-◌, ◌≤◌}
use mathlib.Core.Path.{◌≡◌}
use lib.ListN.{length, take, drop}
use Rattle.panel_lines.specs.Split.{most_held, chunk_held}
use Rattle.lines_test.proofs.take_chunk.Given as goal

abbrev pub invariant-loop-at : goal.invariant-loop-at
invariant-loop-at l = (l.at ≤ length l.chunk) × ((l.n ≤ most_held) × ((length l.line ≡ length l.initial.line) × (chunk_held (take l.n l.line) (drop l.at l.chunk) ≡ chunk_held (take l.held l.initial.line) l.chunk)))

abbrev pub decreases-loop-at : goal.decreases-loop-at
decreases-loop-at l = length l.chunk - l.at
