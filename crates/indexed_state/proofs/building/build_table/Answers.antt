-- `indexed_state::building::build_table` meets its contract.
use Prim.Native.Nat.{◌*◌}
use mathlib.Core.Path.{sym, ap, ◌∙◌}
use lib.ListN.{length}
use native.Mathlib.Omega.{arith}
use borrow.Author.Rules.{rules}
use Rattle.header.specs.Shape.{max_layers}
use Rattle.layout.proofs.Pieces.{Piece, words_long}
use Rattle.layout_index.specs.Tables.{table_length, put_table}
use Rattle.layout_index.proofs.Handed.{most_places, span_piece}
use Rattle.layout_index.proofs.Turns.{table-long}
use Rattle.indexed_state.proofs.Built.{built_here, zeros_taken, zeros_long}
use Rattle.indexed_state.proofs.building.build_table.Goals as goal
use Rattle.indexed_state.proofs.building.build_table.Goals.{After-table_span-s}

-- where the layer's table stands
here : (c : After-table_span-s) → let a = c.args in let s = c.table_span-s.result in let sh = a.header.shape in
    Piece s.start s.end (table_length sh * a.l) (table_length sh) (max_layers * most_places) a.index.now
here c = let a = c.args in span_piece a.header.shape c.requires.buildable.accepted a.l c.requires.l_lt_layers c.table_span-s.result c.table_span-s.ensures a.index.now c.requires.buildable.tables

pub table_span-s-requires : goal.table_span-s-requires
table_span-s-requires c = record {
  accepted = c.requires.buildable.accepted;
  l_lt_layers = c.requires.l_lt_layers;
}

pub offset_bounds-index-a : goal.offset_bounds-index-a
offset_bounds-index-a c = let b = here (goal.at.offset_bounds-index-a c).After-table_span-s in search rules

pub slice_bounds-build-count : goal.slice_bounds-build-count
slice_bounds-build-count c = let b = here (goal.at.slice_bounds-build-count c).After-table_span-s in search rules

pub slice_bounds-build-start : goal.slice_bounds-build-start
slice_bounds-build-start c = let b = here (goal.at.slice_bounds-build-start c).After-table_span-s in search rules

pub slice_bounds-build-end : goal.slice_bounds-build-end
slice_bounds-build-end c = let b = here (goal.at.slice_bounds-build-end c).After-table_span-s in search rules

pub words_at-requires : goal.words_at-requires
words_at-requires c = record {
  accepted = c.requires.buildable.accepted;
  l_lt_layers = c.requires.l_lt_layers;
  entries_len = c.requires.buildable.entries;
}

pub slice_bounds-zeros-end : goal.slice_bounds-zeros-end
slice_bounds-zeros-end c = let s = c.requires.buildable.accepted.small in search rules

pub slice_bounds-build-end-2 : goal.slice_bounds-build-end-2
slice_bounds-build-end-2 c = let a = c.args in sym (zeros_long a.header.shape.heap_size 1024 c.requires.buildable.accepted.small)

pub offset_bounds-lens-l : goal.offset_bounds-lens-l
offset_bounds-lens-l c = let q = c.requires.buildable.accepted.few in let i = c.requires.l_lt_layers in search rules

pub bounds-lens-l : goal.bounds-lens-l
bounds-lens-l c = let q = c.requires.buildable.accepted.few in let i = c.requires.l_lt_layers in search rules

pub build-requires : goal.build-requires
build-requires c =
    let a = c.args in
    let w = ap length c.words_at.ensures ∙ words_long a.header.shape a.l c.requires.l_lt_layers a.entries.now c.requires.buildable.entries in
    let z = zeros_long a.header.shape.heap_size 1024 c.requires.buildable.accepted.small in
    record { words = omega (arith, w, z); used = omega (arith, z, c.requires.buildable.lens a.l c.requires.l_lt_layers) }

pub returns : goal.returns
returns c =
    let a = c.args in
    let sh = a.header.shape in
    let b = here (goal.at.returns c).After-table_span-s in
    b.put c.build.new.index
    ∙ ap (put_table sh a.index.now a.l)
    (built_here a.header a.entries.now a.l _ _ _ _ (ap length b.is ∙ table-long sh a.index.now c.requires.buildable.tables a.l c.requires.l_lt_layers) c.words_at.ensures
    (zeros_taken sh.heap_size 1024 c.requires.buildable.accepted.small) c.build.ensures)
