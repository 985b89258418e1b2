-- `univmon_delta_indexed::check_layer` meets its contract.
use Prim.Native.Nat.{◌-◌}
use mathlib.Core.Path.{◌≡◌, sym, ◌∙◌}
use mathlib.Core.Bool.{Bool, false}
use lib.ListN.{get_or}
use native.Mathlib.Omega.{arith}
use borrow.Author.Rules.{rules}
use mir.Facts.{to_z-of_z}
use Rattle.words.proofs.Parts.{put_back}
use Rattle.layer.specs.inner.Needs.{delta}
use Rattle.layer_indexed.specs.inner.Needs.{grade_number, delta_grade}
use Rattle.layout.specs.State.{dims_at, layer_at}
use Rattle.layout.specs.Slices.{Lent, lent, view}
use Rattle.layout.specs.Records.{item_at}
use Rattle.layout.proofs.Handed.{Spanned, cell_piece, norm_piece, word_piece, seat_piece}
use Rattle.layout_index.specs.Tables.{table_at}
use Rattle.layout_index.proofs.Handed.{Tabled, table_piece}
use Rattle.univmon_delta_indexed.proofs.Grades.{number_graded}
use Rattle.univmon_delta_indexed.proofs.Arrivals.{seated, own}
use Rattle.univmon_delta_indexed.proofs.check_layer.Goals as goal
use Rattle.univmon_delta_indexed.proofs.check_layer.Goals.{After-delta_grade-grade, After-span_of-s, After-table_span-t, Start}

-- the state that is lent, and where its layer and its table stand
abbrev lent_of : Start → Lent
lent_of c = lent c.args.h c.args.counters.now c.args.norms.now c.args.entries.now c.args.counts.now

spanned : (c : After-span_of-s) → Spanned (lent_of (goal.at.After-span_of-s c).Start) c.args.l c.span_of-s.result
spanned c = record { standing = c.requires.placed.standing; inside = c.requires.placed.inside; is = c.span_of-s.ensures }

tabled : (c : After-table_span-t) → Tabled (lent_of (goal.at.After-table_span-t c).Start) c.args.index.now c.args.l c.table_span-t.result
tabled c = record { standing = record { standing = c.requires.placed.standing; tables = c.requires.tables }; inside = c.requires.placed.inside; is = c.table_span-t.ensures }

-- the grade is the layer's
graded : (c : After-delta_grade-grade) (every : Bool) → let a = c.args in
    grade_number c.delta_grade-grade.result
    ≡ delta_grade (dims_at a.h.shape a.l) (delta a.row a.col a.count (item_at a.«record».now a.l) every) (table_at a.h.shape a.index.now a.l) (layer_at (view (lent_of (goal.at.After-delta_grade-grade c).Start)) a.l)
graded c every =
    let a = c.args in
    rw (c.dims-d.ensures, c.item_in-item.ensures, c.norms_at.ensures ∙ sym (norm_piece (spanned (goal.at.After-delta_grade-grade c).After-span_of-s)).is, to_z-of_z c.ranges.count) at (c.delta_grade-grade.ensures.value (get_or a.h.flags a.l false) every)
    ∙ own (spanned (goal.at.After-delta_grade-grade c).After-span_of-s) (tabled (goal.at.After-delta_grade-grade c).After-table_span-t) (delta_grade (dims_at a.h.shape a.l) (delta a.row a.col a.count (item_at a.«record».now a.l) every))

pub span_of-s-requires : goal.span_of-s-requires
span_of-s-requires c = record {
  accepted = c.requires.placed.standing.accepted;
  l_lt_layers = c.requires.placed.inside;
}

pub table_span-t-requires : goal.table_span-t-requires
table_span-t-requires c = record {
  accepted = c.requires.placed.standing.accepted;
  l_lt_layers = c.requires.placed.inside;
}

pub item_in-item-requires : goal.item_in-item-requires
item_in-item-requires c = let p = c.requires.placed in (omega (arith, p.inside, p.standing.accepted.few), omega (arith, p.inside, p.recorded))

pub offset_bounds-lens-l : goal.offset_bounds-lens-l
offset_bounds-lens-l c = let p = c.requires.placed in let q = p.standing.accepted.few in let i = p.inside in search rules

pub bounds-lens-l : goal.bounds-lens-l
bounds-lens-l c = let p = c.requires.placed in let q = p.standing.accepted.few in let i = p.inside in search rules

pub offset_bounds-counters-ca : goal.offset_bounds-counters-ca
offset_bounds-counters-ca c = let b = cell_piece (spanned (goal.at.offset_bounds-counters-ca c).After-span_of-s) in search rules

pub slice_bounds-delta_grade-count : goal.slice_bounds-delta_grade-count
slice_bounds-delta_grade-count c = let b = cell_piece (spanned (goal.at.slice_bounds-delta_grade-count c).After-span_of-s) in search rules

pub slice_bounds-delta_grade-start : goal.slice_bounds-delta_grade-start
slice_bounds-delta_grade-start c = let b = cell_piece (spanned (goal.at.slice_bounds-delta_grade-start c).After-span_of-s) in search rules

pub slice_bounds-delta_grade-end : goal.slice_bounds-delta_grade-end
slice_bounds-delta_grade-end c = let b = cell_piece (spanned (goal.at.slice_bounds-delta_grade-end c).After-span_of-s) in search rules

pub norms_at-requires : goal.norms_at-requires
norms_at-requires c = let p = c.requires.placed in record {
  accepted = p.standing.accepted;
  l_lt_layers = p.inside;
  norms_len = p.standing.sizes.norms;
}

pub offset_bounds-entries-ea : goal.offset_bounds-entries-ea
offset_bounds-entries-ea c = let b = word_piece (spanned (goal.at.offset_bounds-entries-ea c).After-span_of-s) in search rules

pub slice_bounds-delta_grade-count-2 : goal.slice_bounds-delta_grade-count-2
slice_bounds-delta_grade-count-2 c = let b = word_piece (spanned (goal.at.slice_bounds-delta_grade-count-2 c).After-span_of-s) in search rules

pub slice_bounds-delta_grade-start-2 : goal.slice_bounds-delta_grade-start-2
slice_bounds-delta_grade-start-2 c = let b = word_piece (spanned (goal.at.slice_bounds-delta_grade-start-2 c).After-span_of-s) in search rules

pub slice_bounds-delta_grade-end-2 : goal.slice_bounds-delta_grade-end-2
slice_bounds-delta_grade-end-2 c = let b = word_piece (spanned (goal.at.slice_bounds-delta_grade-end-2 c).After-span_of-s) in search rules

pub offset_bounds-counts-ta : goal.offset_bounds-counts-ta
offset_bounds-counts-ta c = let b = seat_piece (spanned (goal.at.offset_bounds-counts-ta c).After-span_of-s) in search rules

pub slice_bounds-delta_grade-count-3 : goal.slice_bounds-delta_grade-count-3
slice_bounds-delta_grade-count-3 c = let b = seat_piece (spanned (goal.at.slice_bounds-delta_grade-count-3 c).After-span_of-s) in search rules

pub slice_bounds-delta_grade-start-3 : goal.slice_bounds-delta_grade-start-3
slice_bounds-delta_grade-start-3 c = let b = seat_piece (spanned (goal.at.slice_bounds-delta_grade-start-3 c).After-span_of-s) in search rules

pub slice_bounds-delta_grade-end-3 : goal.slice_bounds-delta_grade-end-3
slice_bounds-delta_grade-end-3 c = let b = seat_piece (spanned (goal.at.slice_bounds-delta_grade-end-3 c).After-span_of-s) in search rules

pub offset_bounds-index-ia : goal.offset_bounds-index-ia
offset_bounds-index-ia c = let b = table_piece (tabled (goal.at.offset_bounds-index-ia c).After-table_span-t) in search rules

pub slice_bounds-delta_grade-count-4 : goal.slice_bounds-delta_grade-count-4
slice_bounds-delta_grade-count-4 c = let b = table_piece (tabled (goal.at.slice_bounds-delta_grade-count-4 c).After-table_span-t) in search rules

pub slice_bounds-delta_grade-start-4 : goal.slice_bounds-delta_grade-start-4
slice_bounds-delta_grade-start-4 c = let b = table_piece (tabled (goal.at.slice_bounds-delta_grade-start-4 c).After-table_span-t) in search rules

pub slice_bounds-delta_grade-end-4 : goal.slice_bounds-delta_grade-end-4
slice_bounds-delta_grade-end-4 c = let b = table_piece (tabled (goal.at.slice_bounds-delta_grade-end-4 c).After-table_span-t) in search rules

pub delta_grade-grade-requires : goal.delta_grade-grade-requires
delta_grade-grade-requires c =
    let p = c.requires.placed in
    rw (c.dims-d.ensures, c.norms_at.ensures ∙ sym (norm_piece (spanned (goal.at.delta_grade-grade-requires c).After-span_of-s)).is) (record {
      seated = seated (spanned (goal.at.delta_grade-grade-requires c).After-span_of-s) (tabled (goal.at.delta_grade-grade-requires c).After-table_span-t);
      row_lt_rows = (p.below, p.within);
    })

pub returns : goal.returns
returns c =
    let a = c.args in
    let k = c.delta_grade-grade.ensures.counters_unchanged in
    let s = c.span_of-s.result in
    let t = c.table_span-t.result in record {
      value = λ every.
          number_graded (dims_at a.h.shape a.l) (delta a.row a.col a.count (item_at a.«record».now a.l) every) (table_at a.h.shape a.index.now a.l) (layer_at (view (lent_of (goal.at.returns c).Start)) a.l)
          _ _ (graded (goal.at.returns c).After-delta_grade-grade every) c.check_grade.ensures;
      counters_unchanged = (
        put_back s.cells.start (s.cells.end - s.cells.start) a.counters.now _ k.0,
        (
          put_back s.words.start (s.words.end - s.words.start) a.entries.now _ k.1.0,
          (put_back s.seats.start (s.seats.end - s.seats.start) a.counts.now _ k.1.1.0, put_back t.start (t.end - t.start) a.index.now _ k.1.1.1),
        ),
      );
    }
