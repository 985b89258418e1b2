-- `univmon_indexed::judge::grade_at` meets its contract.
use Prim.Native.Nat.{◌-◌, ◌<◌}
use mathlib.Core.Path.{◌≡◌, sym, ◌∙◌}
use mathlib.Core.Bool.{false}
use lib.ListN.{length, get_or}
use native.Mathlib.Omega.{arith}
use borrow.Author.Rules.{rules}
use Rattle.words.proofs.Parts.{put_back}
use Rattle.header.specs.Header.{head_of}
use Rattle.layout.specs.Slices.{Lent, lent}
use Rattle.layout.proofs.Handed.{Spanned, cell_piece, norm_piece, word_piece, seat_piece}
use Rattle.layout_index.specs.Tables.{tables_in}
use Rattle.layout_index.proofs.Handed.{Tabled, table_piece, table_is}
use Rattle.univmon.specs.inner.Needs.{JudgeReady}
use Rattle.univmon_indexed.proofs.Sends.{seated_handed, grade_handed}
use Rattle.univmon_indexed.proofs.judge.grade_at.Goals as goal
use Rattle.univmon_indexed.proofs.judge.grade_at.Goals.{After-span_of-s, After-table_span-t, Start}

-- the state that is lent, and where its layer and its table stand
abbrev lent_of : Start → Lent
lent_of c = lent (head_of c.args.h c.args.lens.now c.args.flags.now) c.args.counters.now c.args.norms.now c.args.entries.now c.args.counts.now

ready : (c : Start) → JudgeReady (lent_of c) c.args.«record».now c.args.weight 1 c.args.l
ready c = c.requires.judge

tables-long : (c : Start) → length c.args.index.now ≡ tables_in c.args.h.shape
tables-long c = c.requires.tables

inside : (c : Start) → c.args.l < c.args.h.shape.layers
inside c = let p = ready c in omega (arith, p.inside)

spanned : (c : After-span_of-s) → Spanned (lent_of (goal.at.After-span_of-s c).Start) c.args.l c.span_of-s.result
spanned c = record { standing = (ready (goal.at.After-span_of-s c).Start).standing; inside = inside (goal.at.After-span_of-s c).Start; is = c.span_of-s.ensures }

tabled : (c : After-table_span-t) → Tabled (lent_of (goal.at.After-table_span-t c).Start) c.args.index.now c.args.l c.table_span-t.result
tabled c = record { standing = record { standing = (ready (goal.at.After-table_span-t c).Start).standing; tables = tables-long (goal.at.After-table_span-t c).Start }; inside = inside (goal.at.After-table_span-t c).Start; is = c.table_span-t.ensures }

pub cells_at-requires : goal.cells_at-requires
cells_at-requires c = let z = (ready (goal.at.cells_at-requires c).Start).standing in record {
  accepted = z.accepted;
  l_lt_layers = inside (goal.at.cells_at-requires c).Start;
  counters_len = z.sizes.cells;
}

pub norms_at-requires : goal.norms_at-requires
norms_at-requires c = let z = (ready (goal.at.norms_at-requires c).Start).standing in record {
  accepted = z.accepted;
  l_lt_layers = inside (goal.at.norms_at-requires c).Start;
  norms_len = z.sizes.norms;
}

pub offset_bounds-entries-s : goal.offset_bounds-entries-s
offset_bounds-entries-s c = let b = word_piece (spanned (goal.at.offset_bounds-entries-s c).After-span_of-s) in search rules

pub slice_bounds-add_grade-count : goal.slice_bounds-add_grade-count
slice_bounds-add_grade-count c = let b = word_piece (spanned (goal.at.slice_bounds-add_grade-count c).After-span_of-s) in search rules

pub slice_bounds-add_grade-start : goal.slice_bounds-add_grade-start
slice_bounds-add_grade-start c = let b = word_piece (spanned (goal.at.slice_bounds-add_grade-start c).After-span_of-s) in search rules

pub slice_bounds-add_grade-end : goal.slice_bounds-add_grade-end
slice_bounds-add_grade-end c = let b = word_piece (spanned (goal.at.slice_bounds-add_grade-end c).After-span_of-s) in search rules

pub offset_bounds-counts-s : goal.offset_bounds-counts-s
offset_bounds-counts-s c = let b = seat_piece (spanned (goal.at.offset_bounds-counts-s c).After-span_of-s) in search rules

pub slice_bounds-add_grade-count-2 : goal.slice_bounds-add_grade-count-2
slice_bounds-add_grade-count-2 c = let b = seat_piece (spanned (goal.at.slice_bounds-add_grade-count-2 c).After-span_of-s) in search rules

pub slice_bounds-add_grade-start-2 : goal.slice_bounds-add_grade-start-2
slice_bounds-add_grade-start-2 c = let b = seat_piece (spanned (goal.at.slice_bounds-add_grade-start-2 c).After-span_of-s) in search rules

pub slice_bounds-add_grade-end-2 : goal.slice_bounds-add_grade-end-2
slice_bounds-add_grade-end-2 c = let b = seat_piece (spanned (goal.at.slice_bounds-add_grade-end-2 c).After-span_of-s) in search rules

pub offset_bounds-index-t : goal.offset_bounds-index-t
offset_bounds-index-t c = let b = table_piece (tabled (goal.at.offset_bounds-index-t c).After-table_span-t) in search rules

pub slice_bounds-add_grade-count-3 : goal.slice_bounds-add_grade-count-3
slice_bounds-add_grade-count-3 c = let b = table_piece (tabled (goal.at.slice_bounds-add_grade-count-3 c).After-table_span-t) in search rules

pub slice_bounds-add_grade-start-3 : goal.slice_bounds-add_grade-start-3
slice_bounds-add_grade-start-3 c = let b = table_piece (tabled (goal.at.slice_bounds-add_grade-start-3 c).After-table_span-t) in search rules

pub slice_bounds-add_grade-end-3 : goal.slice_bounds-add_grade-end-3
slice_bounds-add_grade-end-3 c = let b = table_piece (tabled (goal.at.slice_bounds-add_grade-end-3 c).After-table_span-t) in search rules

pub add_grade-requires : goal.add_grade-requires
add_grade-requires c =
    let a = c.args in
    rw (c.dims-d.ensures, c.cells_at.ensures ∙ sym (cell_piece (spanned (goal.at.add_grade-requires c).After-span_of-s)).is, c.norms_at.ensures ∙ sym (norm_piece (spanned (goal.at.add_grade-requires c).After-span_of-s)).is, table_is (tabled (goal.at.add_grade-requires c).After-table_span-t))
    (record {
      seated = seated_handed a.«record».now a.weight (spanned (goal.at.add_grade-requires c).After-span_of-s) a.index.now (tables-long (goal.at.add_grade-requires c).Start);
      weight_le_top = (ready (goal.at.add_grade-requires c).Start).light;
    })

pub returns : goal.returns
returns c =
    let a = c.args in
    let k = c.add_grade.ensures.entries_unchanged in
    let s = c.span_of-s.result in
    let t = c.table_span-t.result in record {
      value = grade_handed a.«record».now a.weight (spanned (goal.at.returns c).After-span_of-s) a.index.now (tables-long (goal.at.returns c).Start) _
          (rw (c.dims-d.ensures, c.item_in-item.ensures, c.cells_at.ensures ∙ sym (cell_piece (spanned (goal.at.returns c).After-span_of-s)).is, c.norms_at.ensures ∙ sym (norm_piece (spanned (goal.at.returns c).After-span_of-s)).is, table_is (tabled (goal.at.returns c).After-table_span-t)) at (c.add_grade.ensures.value (get_or a.flags.now a.l false)));
      entries_unchanged = (
        put_back s.words.start (s.words.end - s.words.start) a.entries.now _ k.0,
        (put_back s.seats.start (s.seats.end - s.seats.start) a.counts.now _ k.1.0, put_back t.start (t.end - t.start) a.index.now _ k.1.1),
      );
    }
