-- `state_lines::rows::read_rows` meets its contract.
use Prim.Native.Nat.{suc, ◌-◌, ◌≤◌}
use lib.ListN.{drop}
use Rattle.state_forms.specs.Grammar.{row_listing}
use Rattle.state_forms.specs.Sparse.{sparse_r}
use Rattle.state_lines.proofs.RowWalk.{RowsLeft}
use Rattle.state_lines.proofs.rows.read_rows.Given as goal

abbrev pub invariant-loop-r : goal.invariant-loop-r
invariant-loop-r l = (l.r ≤ l.rows) × RowsLeft l.l l.cols l.rows (sparse_r (row_listing l.l l.cols) (suc l.rows) 0 l.rows (drop l.at l.s)) l.initial.cells (drop l.p l.s) l.cells l.r

abbrev pub decreases-loop-r : goal.decreases-loop-r
decreases-loop-r l = suc l.rows - l.r
