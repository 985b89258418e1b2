-- `univmon_indexed::send::send_one` meets its contract.
use Prim.Native.Nat.{◌<◌}
use mathlib.Core.Path.{◌≡◌, ap, ◌∙◌}
use mathlib.Core.Bool.{false}
use lib.ListN.{length, get_or}
use native.Mathlib.Omega.{arith}
use borrow.Author.Rules.{rules}
use Rattle.header.specs.Header.{head_of}
use Rattle.layout.specs.Slices.{Lent, lent}
use Rattle.layout.proofs.Handed.{Spanned, cell_piece, norm_piece, word_piece, seat_piece, Back}
use Rattle.layout_index.specs.Tables.{tables_in}
use Rattle.layout_index.proofs.Handed.{Tabled, table_piece, table_is, table-put}
use Rattle.univmon.specs.inner.Needs.{JudgeReady}
use Rattle.univmon.proofs.Sends.{noted}
use Rattle.univmon_indexed.proofs.Sends.{sent-one, add_ready_in}
use Rattle.univmon_indexed.proofs.send.send_one.Goals as goal
use Rattle.univmon_indexed.proofs.send.send_one.Goals.{After-add-answer, After-span_of-s, After-table_span-t, Start}

-- the state that is lent, and where its layer and its table stand
abbrev lent_of : Start → Lent
lent_of c = lent (head_of c.args.h c.args.lens.now c.args.flags.now) c.args.counters.now c.args.norms.now c.args.entries.now c.args.counts.now

ready : (c : Start) → JudgeReady (lent_of c) c.args.«record».now c.args.weight 1 c.args.l
ready c = c.requires.send_ready_in.judge.judge

tables-long : (c : Start) → length c.args.index.now ≡ tables_in c.args.h.shape
tables-long c = c.requires.send_ready_in.judge.tables

inside : (c : Start) → c.args.l < c.args.h.shape.layers
inside c = let p = ready c in omega (arith, p.inside)

spanned : (c : After-span_of-s) → Spanned (lent_of (goal.at.After-span_of-s c).Start) c.args.l c.span_of-s.result
spanned c = record { standing = (ready (goal.at.After-span_of-s c).Start).standing; inside = inside (goal.at.After-span_of-s c).Start; is = c.span_of-s.ensures }

tabled : (c : After-table_span-t) → Tabled (lent_of (goal.at.After-table_span-t c).Start) c.args.index.now c.args.l c.table_span-t.result
tabled c = record { standing = record { standing = (ready (goal.at.After-table_span-t c).Start).standing; tables = tables-long (goal.at.After-table_span-t c).Start }; inside = inside (goal.at.After-table_span-t c).Start; is = c.table_span-t.ensures }

-- the parts that came back
back : (c : After-add-answer) → let l = c.add-answer.new in Back (spanned (goal.at.After-add-answer c).After-span_of-s) l.counters l.norms l.entries l.counts
back c = let l = c.add-answer.auto in record { cells = l.counters; norms = l.norms; words = l.entries; seats = l.counts }

pub offset_bounds-counters-s : goal.offset_bounds-counters-s
offset_bounds-counters-s c = let b = cell_piece (spanned (goal.at.offset_bounds-counters-s c).After-span_of-s) in search rules

pub slice_bounds-add-count : goal.slice_bounds-add-count
slice_bounds-add-count c = let b = cell_piece (spanned (goal.at.slice_bounds-add-count c).After-span_of-s) in search rules

pub slice_bounds-add-start : goal.slice_bounds-add-start
slice_bounds-add-start c = let b = cell_piece (spanned (goal.at.slice_bounds-add-start c).After-span_of-s) in search rules

pub slice_bounds-add-end : goal.slice_bounds-add-end
slice_bounds-add-end c = let b = cell_piece (spanned (goal.at.slice_bounds-add-end c).After-span_of-s) in search rules

pub offset_bounds-norms-s : goal.offset_bounds-norms-s
offset_bounds-norms-s c = let b = norm_piece (spanned (goal.at.offset_bounds-norms-s c).After-span_of-s) in search rules

pub slice_bounds-add-count-2 : goal.slice_bounds-add-count-2
slice_bounds-add-count-2 c = let b = norm_piece (spanned (goal.at.slice_bounds-add-count-2 c).After-span_of-s) in search rules

pub slice_bounds-add-start-2 : goal.slice_bounds-add-start-2
slice_bounds-add-start-2 c = let b = norm_piece (spanned (goal.at.slice_bounds-add-start-2 c).After-span_of-s) in search rules

pub slice_bounds-add-end-2 : goal.slice_bounds-add-end-2
slice_bounds-add-end-2 c = let b = norm_piece (spanned (goal.at.slice_bounds-add-end-2 c).After-span_of-s) in search rules

pub offset_bounds-entries-s : goal.offset_bounds-entries-s
offset_bounds-entries-s c = let b = word_piece (spanned (goal.at.offset_bounds-entries-s c).After-span_of-s) in search rules

pub slice_bounds-add-count-3 : goal.slice_bounds-add-count-3
slice_bounds-add-count-3 c = let b = word_piece (spanned (goal.at.slice_bounds-add-count-3 c).After-span_of-s) in search rules

pub slice_bounds-add-start-3 : goal.slice_bounds-add-start-3
slice_bounds-add-start-3 c = let b = word_piece (spanned (goal.at.slice_bounds-add-start-3 c).After-span_of-s) in search rules

pub slice_bounds-add-end-3 : goal.slice_bounds-add-end-3
slice_bounds-add-end-3 c = let b = word_piece (spanned (goal.at.slice_bounds-add-end-3 c).After-span_of-s) in search rules

pub offset_bounds-counts-s : goal.offset_bounds-counts-s
offset_bounds-counts-s c = let b = seat_piece (spanned (goal.at.offset_bounds-counts-s c).After-span_of-s) in search rules

pub slice_bounds-add-count-4 : goal.slice_bounds-add-count-4
slice_bounds-add-count-4 c = let b = seat_piece (spanned (goal.at.slice_bounds-add-count-4 c).After-span_of-s) in search rules

pub slice_bounds-add-start-4 : goal.slice_bounds-add-start-4
slice_bounds-add-start-4 c = let b = seat_piece (spanned (goal.at.slice_bounds-add-start-4 c).After-span_of-s) in search rules

pub slice_bounds-add-end-4 : goal.slice_bounds-add-end-4
slice_bounds-add-end-4 c = let b = seat_piece (spanned (goal.at.slice_bounds-add-end-4 c).After-span_of-s) in search rules

pub offset_bounds-index-t : goal.offset_bounds-index-t
offset_bounds-index-t c = let b = table_piece (tabled (goal.at.offset_bounds-index-t c).After-table_span-t) in search rules

pub slice_bounds-add-count-5 : goal.slice_bounds-add-count-5
slice_bounds-add-count-5 c = let b = table_piece (tabled (goal.at.slice_bounds-add-count-5 c).After-table_span-t) in search rules

pub slice_bounds-add-start-5 : goal.slice_bounds-add-start-5
slice_bounds-add-start-5 c = let b = table_piece (tabled (goal.at.slice_bounds-add-start-5 c).After-table_span-t) in search rules

pub slice_bounds-add-end-5 : goal.slice_bounds-add-end-5
slice_bounds-add-end-5 c = let b = table_piece (tabled (goal.at.slice_bounds-add-end-5 c).After-table_span-t) in search rules

pub add-answer-requires : goal.add-answer-requires
add-answer-requires c =
    let a = c.args in
    rw (c.dims-d.ensures, c.item_in-item.ensures, table_is (tabled (goal.at.add-answer-requires c).After-table_span-t))
    (add_ready_in a.«record».now a.weight (spanned (goal.at.add-answer-requires c).After-span_of-s) a.index.now (tables-long (goal.at.add-answer-requires c).Start) (ready (goal.at.add-answer-requires c).Start).light c.requires.send_ready_in.fine)

pub returns : goal.returns
returns c =
    let a = c.args in
    let f = get_or a.flags.now a.l false in
    sent-one a.«record».now a.weight (spanned (goal.at.returns c).After-span_of-s) a.index.now (tables-long (goal.at.returns c).Start) _ _ _ _ c.add-answer.new.index c.add-answer.result _ _ _ _ (back (goal.at.returns c).After-add-answer)
    (rw (c.dims-d.ensures, c.item_in-item.ensures, table_is (tabled (goal.at.returns c).After-table_span-t)) at (c.add-answer.ensures.result_value f))
    (rw (c.dims-d.ensures, c.item_in-item.ensures, table_is (tabled (goal.at.returns c).After-table_span-t)) at (c.add-answer.ensures.value f))
    (rw (c.dims-d.ensures, c.item_in-item.ensures, table_is (tabled (goal.at.returns c).After-table_span-t)) at (c.add-answer.ensures.index_after f))
    (c.add-answer.auto.index ∙ ap length (table_is (tabled (goal.at.returns c).After-table_span-t)))
    (noted a.h a.lens.now a.flags.now a.l _ _ _ _ c.note.ensures.lens_after c.note.ensures.flags_after)
    (table-put (tabled (goal.at.returns c).After-table_span-t) c.add-answer.new.index)
    c.note.ensures.list_after
