-- `layout_index::table_at` meets its contract.
use Rattle.std.proofs.Common.{◌*◌, rules}
use Rattle.header.specs.Shape.{max_layers}
use Rattle.layout.proofs.Pieces.{Piece}
use Rattle.layout_index.specs.Tables.{table_length}
use Rattle.layout_index.proofs.Handed.{most_places, span_piece}
use Rattle.layout_index.proofs.table_at.Goals as goal
use Rattle.layout_index.proofs.table_at.Goals.{After-table_span-s}

-- where the table stands
here : (c : After-table_span-s) → let a = c.args in let s = c.table_span-s.result in
    Piece s.start s.end (table_length a.shape * a.l) (table_length a.shape) (max_layers * most_places) a.index.now
here c = let a = c.args in span_piece a.shape c.requires.accepted a.l c.requires.l_lt_layers c.table_span-s.result c.table_span-s.ensures a.index.now c.requires.index_len

pub offset_bounds-index-s : goal.offset_bounds-index-s
offset_bounds-index-s c = let p = here (goal.at.offset_bounds-index-s c).After-table_span-s in search rules

pub slice_bounds-result-count : goal.slice_bounds-result-count
slice_bounds-result-count c = let p = here (goal.at.slice_bounds-result-count c).After-table_span-s in search rules

pub slice_bounds-result-start : goal.slice_bounds-result-start
slice_bounds-result-start c = let p = here (goal.at.slice_bounds-result-start c).After-table_span-s in search rules

pub slice_bounds-result-end : goal.slice_bounds-result-end
slice_bounds-result-end c = let p = here (goal.at.slice_bounds-result-end c).After-table_span-s in search rules

pub returns : goal.returns
returns c = (here (goal.at.returns c).After-table_span-s).is
