-- `state_forms::cells::lay_rows` meets its contract.
use Prim.Native.Nat.{◌-◌, ◌*◌}
use lib.ListN.{drop}
use Rattle.state_forms.specs.Sparse.{sparse_text}
use Rattle.state_forms.specs.Grammar.{row_listing, rows_of}
use Rattle.state_forms.proofs.Layings.{LaidSoFar}
use Rattle.state_forms.proofs.cells.lay_rows.Given as goal

abbrev pub invariant-loop-r : goal.invariant-loop-r
invariant-loop-r l = LaidSoFar l.initial.out l.at (sparse_text (row_listing l.l l.cols) 0 (rows_of l.cols l.rows l.cells)) l.out l.p (sparse_text (row_listing l.l l.cols) l.r (rows_of l.cols (l.rows - l.r) (drop (l.r * l.cols) l.cells)))
