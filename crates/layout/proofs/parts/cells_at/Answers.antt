-- `layout::parts::cells_at` meets its contract.
use Prim.Native.Nat.{◌*◌}
use borrow.Author.Rules.{rules}
use Rattle.header.specs.Shape.{max_layers}
use Rattle.matrix_storage.specs.Bits.{max_rows, max_cols}
use Rattle.layout.proofs.Pieces.{Piece, cells_piece}
use Rattle.layout.specs.State.{rows_at, cols_at, cell_off}
use Rattle.layout.proofs.parts.cells_at.Goals as goal
use Rattle.layout.proofs.parts.cells_at.Goals.{After-span_of-s}

-- where the part stands
here : (c : After-span_of-s) → let a = c.args in let s = c.span_of-s.result in
    Piece s.cells.start s.cells.end (cell_off a.shape a.l) (rows_at a.shape a.l * cols_at a.shape a.l) (max_layers * (max_rows * max_cols)) a.counters.now
here c = let a = c.args in cells_piece a.shape c.requires.accepted a.l c.requires.l_lt_layers c.span_of-s.result c.span_of-s.ensures a.counters.now c.requires.counters_len

pub offset_bounds-counters-s : goal.offset_bounds-counters-s
offset_bounds-counters-s c = let p = here (goal.at.offset_bounds-counters-s c).After-span_of-s in search rules

pub slice_bounds-result-count : goal.slice_bounds-result-count
slice_bounds-result-count c = let p = here (goal.at.slice_bounds-result-count c).After-span_of-s in search rules

pub slice_bounds-result-start : goal.slice_bounds-result-start
slice_bounds-result-start c = let p = here (goal.at.slice_bounds-result-start c).After-span_of-s in search rules

pub slice_bounds-result-end : goal.slice_bounds-result-end
slice_bounds-result-end c = let p = here (goal.at.slice_bounds-result-end c).After-span_of-s in search rules

pub returns : goal.returns
returns c = (here (goal.at.returns c).After-span_of-s).is
