-- `layout::parts::seats_at` meets its contract.
use Prim.Native.Nat.{◌*◌}
use borrow.Author.Rules.{rules}
use Rattle.header.specs.Shape.{max_layers, max_heap}
use Rattle.layout.proofs.Pieces.{Piece, seats_piece}
use Rattle.layout.specs.State.{cand_off}
use Rattle.layout.proofs.parts.seats_at.Goals as goal
use Rattle.layout.proofs.parts.seats_at.Goals.{After-span_of-s}

-- where the part stands
here : (c : After-span_of-s) → let a = c.args in let s = c.span_of-s.result in
    Piece s.seats.start s.seats.end (cand_off a.shape a.l) a.shape.heap_size (max_layers * max_heap) a.counts.now
here c = let a = c.args in seats_piece a.shape c.requires.accepted a.l c.requires.l_lt_layers c.span_of-s.result c.span_of-s.ensures a.counts.now c.requires.counts_len

pub offset_bounds-counts-s : goal.offset_bounds-counts-s
offset_bounds-counts-s c = let p = here (goal.at.offset_bounds-counts-s c).After-span_of-s in search rules

pub slice_bounds-result-count : goal.slice_bounds-result-count
slice_bounds-result-count c = let p = here (goal.at.slice_bounds-result-count c).After-span_of-s in search rules

pub slice_bounds-result-start : goal.slice_bounds-result-start
slice_bounds-result-start c = let p = here (goal.at.slice_bounds-result-start c).After-span_of-s in search rules

pub slice_bounds-result-end : goal.slice_bounds-result-end
slice_bounds-result-end c = let p = here (goal.at.slice_bounds-result-end c).After-span_of-s in search rules

pub returns : goal.returns
returns c = (here (goal.at.returns c).After-span_of-s).is
