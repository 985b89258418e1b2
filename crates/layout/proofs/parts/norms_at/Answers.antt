-- `layout::parts::norms_at` meets its contract.
use Prim.Native.Nat.{◌*◌}
use borrow.Author.Rules.{rules}
use Rattle.header.specs.Shape.{max_layers}
use Rattle.matrix_storage.specs.Bits.{max_rows}
use Rattle.layout.proofs.Pieces.{Piece, norms_piece}
use Rattle.layout.specs.State.{rows_at, norm_off}
use Rattle.layout.proofs.parts.norms_at.Goals as goal
use Rattle.layout.proofs.parts.norms_at.Goals.{After-span_of-s}

-- where the part stands
here : (c : After-span_of-s) → let a = c.args in let s = c.span_of-s.result in
    Piece s.norms.start s.norms.end (2 * norm_off a.shape a.l) (2 * rows_at a.shape a.l) (2 * (max_layers * max_rows)) a.norms.now
here c = let a = c.args in norms_piece a.shape c.requires.accepted a.l c.requires.l_lt_layers c.span_of-s.result c.span_of-s.ensures a.norms.now c.requires.norms_len

pub offset_bounds-norms-s : goal.offset_bounds-norms-s
offset_bounds-norms-s c = let p = here (goal.at.offset_bounds-norms-s c).After-span_of-s in search rules

pub slice_bounds-result-count : goal.slice_bounds-result-count
slice_bounds-result-count c = let p = here (goal.at.slice_bounds-result-count c).After-span_of-s in search rules

pub slice_bounds-result-start : goal.slice_bounds-result-start
slice_bounds-result-start c = let p = here (goal.at.slice_bounds-result-start c).After-span_of-s in search rules

pub slice_bounds-result-end : goal.slice_bounds-result-end
slice_bounds-result-end c = let p = here (goal.at.slice_bounds-result-end c).After-span_of-s in search rules

pub returns : goal.returns
returns c = (here (goal.at.returns c).After-span_of-s).is
