-- `univmon_indexed::send::send_first` meets its contract.
use Prim.Native.Nat.{◌-◌, ◌<◌}
use mathlib.Core.Path.{◌≡◌, refl, ap, ◌∙◌}
use mathlib.Core.Bool.{true, false}
use lib.ListN.{length, get_or}
use native.Mathlib.Omega.{arith}
use borrow.Author.Rules.{rules}
use Rattle.words.proofs.Parts.{put_back}
use Rattle.header.specs.Header.{head_of}
use Rattle.layout.specs.Slices.{Lent, lent}
use Rattle.layout.proofs.Handed.{Spanned, cell_piece, norm_piece, word_piece, seat_piece, handed_back, Back}
use Rattle.layout_index.specs.Tables.{tables_in}
use Rattle.layout_index.proofs.Handed.{Tabled, table_piece, table_is, table-put}
use Rattle.univmon.specs.inner.Needs.{JudgeReady}
use Rattle.univmon.proofs.Sends.{noted}
use Rattle.univmon_indexed.proofs.Sends.{seated_handed, sent-one, made_handed}
use Rattle.univmon_indexed.proofs.send.send_first.Goals as goal
use Rattle.univmon_indexed.proofs.send.send_first.Goals.{After-add_if_fine, After-span_of-s, After-table_span-t, Start}

-- the state that is lent, and where its layer and its table stand
abbrev lent_of : Start → Lent
lent_of c = lent (head_of c.args.h c.args.lens.now c.args.flags.now) c.args.counters.now c.args.norms.now c.args.entries.now c.args.counts.now

ready : (c : Start) → JudgeReady (lent_of c) c.args.«record».now c.args.weight 1 c.args.l
ready c = c.requires.judge_ready_in.judge

tables-long : (c : Start) → length c.args.index.now ≡ tables_in c.args.h.shape
tables-long c = c.requires.judge_ready_in.tables

inside : (c : Start) → c.args.l < c.args.h.shape.layers
inside c = let p = ready c in omega (arith, p.inside)

spanned : (c : After-span_of-s) → Spanned (lent_of (goal.at.After-span_of-s c).Start) c.args.l c.span_of-s.result
spanned c = record { standing = (ready (goal.at.After-span_of-s c).Start).standing; inside = inside (goal.at.After-span_of-s c).Start; is = c.span_of-s.ensures }

tabled : (c : After-table_span-t) → Tabled (lent_of (goal.at.After-table_span-t c).Start) c.args.index.now c.args.l c.table_span-t.result
tabled c = record { standing = record { standing = (ready (goal.at.After-table_span-t c).Start).standing; tables = tables-long (goal.at.After-table_span-t c).Start }; inside = inside (goal.at.After-table_span-t c).Start; is = c.table_span-t.ensures }

-- the parts that came back
back : (c : After-add_if_fine) → let l = c.add_if_fine.new in Back (spanned (goal.at.After-add_if_fine c).After-span_of-s) l.counters l.norms l.entries l.counts
back c = let l = c.add_if_fine.auto in record { cells = l.counters; norms = l.norms; words = l.entries; seats = l.counts }

pub offset_bounds-counters-s : goal.offset_bounds-counters-s
offset_bounds-counters-s c = let b = cell_piece (spanned (goal.at.offset_bounds-counters-s c).After-span_of-s) in search rules

pub slice_bounds-add_if_fine-count : goal.slice_bounds-add_if_fine-count
slice_bounds-add_if_fine-count c = let b = cell_piece (spanned (goal.at.slice_bounds-add_if_fine-count c).After-span_of-s) in search rules

pub slice_bounds-add_if_fine-start : goal.slice_bounds-add_if_fine-start
slice_bounds-add_if_fine-start c = let b = cell_piece (spanned (goal.at.slice_bounds-add_if_fine-start c).After-span_of-s) in search rules

pub slice_bounds-add_if_fine-end : goal.slice_bounds-add_if_fine-end
slice_bounds-add_if_fine-end c = let b = cell_piece (spanned (goal.at.slice_bounds-add_if_fine-end c).After-span_of-s) in search rules

pub offset_bounds-norms-s : goal.offset_bounds-norms-s
offset_bounds-norms-s c = let b = norm_piece (spanned (goal.at.offset_bounds-norms-s c).After-span_of-s) in search rules

pub slice_bounds-add_if_fine-count-2 : goal.slice_bounds-add_if_fine-count-2
slice_bounds-add_if_fine-count-2 c = let b = norm_piece (spanned (goal.at.slice_bounds-add_if_fine-count-2 c).After-span_of-s) in search rules

pub slice_bounds-add_if_fine-start-2 : goal.slice_bounds-add_if_fine-start-2
slice_bounds-add_if_fine-start-2 c = let b = norm_piece (spanned (goal.at.slice_bounds-add_if_fine-start-2 c).After-span_of-s) in search rules

pub slice_bounds-add_if_fine-end-2 : goal.slice_bounds-add_if_fine-end-2
slice_bounds-add_if_fine-end-2 c = let b = norm_piece (spanned (goal.at.slice_bounds-add_if_fine-end-2 c).After-span_of-s) in search rules

pub offset_bounds-entries-s : goal.offset_bounds-entries-s
offset_bounds-entries-s c = let b = word_piece (spanned (goal.at.offset_bounds-entries-s c).After-span_of-s) in search rules

pub slice_bounds-add_if_fine-count-3 : goal.slice_bounds-add_if_fine-count-3
slice_bounds-add_if_fine-count-3 c = let b = word_piece (spanned (goal.at.slice_bounds-add_if_fine-count-3 c).After-span_of-s) in search rules

pub slice_bounds-add_if_fine-start-3 : goal.slice_bounds-add_if_fine-start-3
slice_bounds-add_if_fine-start-3 c = let b = word_piece (spanned (goal.at.slice_bounds-add_if_fine-start-3 c).After-span_of-s) in search rules

pub slice_bounds-add_if_fine-end-3 : goal.slice_bounds-add_if_fine-end-3
slice_bounds-add_if_fine-end-3 c = let b = word_piece (spanned (goal.at.slice_bounds-add_if_fine-end-3 c).After-span_of-s) in search rules

pub offset_bounds-counts-s : goal.offset_bounds-counts-s
offset_bounds-counts-s c = let b = seat_piece (spanned (goal.at.offset_bounds-counts-s c).After-span_of-s) in search rules

pub slice_bounds-add_if_fine-count-4 : goal.slice_bounds-add_if_fine-count-4
slice_bounds-add_if_fine-count-4 c = let b = seat_piece (spanned (goal.at.slice_bounds-add_if_fine-count-4 c).After-span_of-s) in search rules

pub slice_bounds-add_if_fine-start-4 : goal.slice_bounds-add_if_fine-start-4
slice_bounds-add_if_fine-start-4 c = let b = seat_piece (spanned (goal.at.slice_bounds-add_if_fine-start-4 c).After-span_of-s) in search rules

pub slice_bounds-add_if_fine-end-4 : goal.slice_bounds-add_if_fine-end-4
slice_bounds-add_if_fine-end-4 c = let b = seat_piece (spanned (goal.at.slice_bounds-add_if_fine-end-4 c).After-span_of-s) in search rules

pub offset_bounds-index-t : goal.offset_bounds-index-t
offset_bounds-index-t c = let b = table_piece (tabled (goal.at.offset_bounds-index-t c).After-table_span-t) in search rules

pub slice_bounds-add_if_fine-count-5 : goal.slice_bounds-add_if_fine-count-5
slice_bounds-add_if_fine-count-5 c = let b = table_piece (tabled (goal.at.slice_bounds-add_if_fine-count-5 c).After-table_span-t) in search rules

pub slice_bounds-add_if_fine-start-5 : goal.slice_bounds-add_if_fine-start-5
slice_bounds-add_if_fine-start-5 c = let b = table_piece (tabled (goal.at.slice_bounds-add_if_fine-start-5 c).After-table_span-t) in search rules

pub slice_bounds-add_if_fine-end-5 : goal.slice_bounds-add_if_fine-end-5
slice_bounds-add_if_fine-end-5 c = let b = table_piece (tabled (goal.at.slice_bounds-add_if_fine-end-5 c).After-table_span-t) in search rules

pub add_if_fine-requires : goal.add_if_fine-requires
add_if_fine-requires c =
    let a = c.args in
    rw (c.dims-d.ensures, table_is (tabled (goal.at.add_if_fine-requires c).After-table_span-t)) (record {
      seated = seated_handed a.«record».now a.weight (spanned (goal.at.add_if_fine-requires c).After-span_of-s) a.index.now (tables-long (goal.at.add_if_fine-requires c).Start);
      weight_le_top = (ready (goal.at.add_if_fine-requires c).Start).light;
    })

pub returns-in_default-clause-value : goal.returns-in_default-clause-value
returns-in_default-clause-value c =
    let a = c.args in
    made_handed a.«record».now a.weight (spanned (goal.at.returns-in_default-clause-value c).After-span_of-s) a.index.now (tables-long (goal.at.returns-in_default-clause-value c).Start) false
    (rw (c.dims-d.ensures, c.item_in-item.ensures, table_is (tabled (goal.at.returns-in_default-clause-value c).After-table_span-t)) at (c.in_default.ensures.made_value (get_or a.flags.now a.l false)))

pub returns-in_default-clause-kept_in : goal.returns-in_default-clause-kept_in
returns-in_default-clause-kept_in c = λ q.
    let k = c.in_default.ensures.untouched in
    let t = c.table_span-t.result in record {
      lends = handed_back (lent_of (goal.at.returns-in_default-clause-kept_in c).Start) c.span_of-s.result _ _ _ _ k.0.0 k.0.1.0 k.0.1.1.0 k.0.1.1.1;
      index = put_back t.start (t.end - t.start) c.args.index.now _ k.1;
      told = refl;
    }

pub returns-clause-value : goal.returns-clause-value
returns-clause-value c =
    let a = c.args in
    made_handed a.«record».now a.weight (spanned (goal.at.returns-clause-value c).After-span_of-s) a.index.now (tables-long (goal.at.returns-clause-value c).Start) true
    (rw (c.dims-d.ensures, c.item_in-item.ensures, table_is (tabled (goal.at.returns-clause-value c).After-table_span-t)) at (c.in-Some.ensures.made_value (get_or a.flags.now a.l false)))

pub returns-clause-sent_one_in : goal.returns-clause-sent_one_in
returns-clause-sent_one_in c = λ t.
    let a = c.args in
    let f = get_or a.flags.now a.l false in
    sent-one a.«record».now a.weight (spanned (goal.at.returns-clause-sent_one_in c).After-span_of-s) a.index.now (tables-long (goal.at.returns-clause-sent_one_in c).Start) _ _ _ _ c.add_if_fine.new.index c.in-Some.answer _ _ _ _ (back (goal.at.returns-clause-sent_one_in c).After-add_if_fine)
    (rw (c.dims-d.ensures, c.item_in-item.ensures, table_is (tabled (goal.at.returns-clause-sent_one_in c).After-table_span-t)) at (c.in-Some.ensures.answer_value f))
    (rw (c.dims-d.ensures, c.item_in-item.ensures, table_is (tabled (goal.at.returns-clause-sent_one_in c).After-table_span-t)) at (c.in-Some.ensures.answer_value_2 f))
    (rw (c.dims-d.ensures, c.item_in-item.ensures, table_is (tabled (goal.at.returns-clause-sent_one_in c).After-table_span-t)) at (c.in-Some.ensures.index_after f))
    (c.add_if_fine.auto.index ∙ ap length (table_is (tabled (goal.at.returns-clause-sent_one_in c).After-table_span-t)))
    (noted a.h a.lens.now a.flags.now a.l _ _ _ _ c.note.ensures.lens_after c.note.ensures.flags_after)
    (table-put (tabled (goal.at.returns-clause-sent_one_in c).After-table_span-t) c.add_if_fine.new.index)
    (rw c.zero_places.ensures at c.note.ensures.list_after)
