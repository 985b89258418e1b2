-- `univmon::update::send_first` meets its contract.
use Prim.Native.Nat.{◌<◌}
use mathlib.Core.Bool.{true, false}
use lib.ListN.{get_or}
use native.Mathlib.Omega.{arith}
use borrow.Author.Rules.{rules}
use Rattle.header.specs.Header.{head_of}
use Rattle.layout.specs.Slices.{lent}
use Rattle.layout.proofs.Handed.{Spanned, cell_piece, norm_piece, word_piece, seat_piece, housed, word-length, Back}
use Rattle.univmon.proofs.Sends.{sent-one, ready_handed, noted}
use Rattle.univmon.proofs.update.send_first.Goals as goal
use Rattle.univmon.proofs.update.send_first.Goals.{After-add_if_ready, After-span_of-s}

-- where the layer of the lent state stands
spanned : (c : After-span_of-s) → Spanned ((lent (head_of c.args.h c.args.lens.now c.args.flags.now) c.args.counters.now c.args.norms.now c.args.entries.now c.args.counts.now)) c.args.l c.span_of-s.result
spanned c = record { standing = c.requires.judge_ready.standing; inside = (let h-inside : c.args.l < c.args.h.shape.layers = omega (arith, c.requires.judge_ready.inside) in h-inside); is = c.span_of-s.ensures }

-- the parts that came back
back : (c : After-add_if_ready) (q : Spanned ((lent (head_of c.args.h c.args.lens.now c.args.flags.now) c.args.counters.now c.args.norms.now c.args.entries.now c.args.counts.now)) c.args.l c.span_of-s.result) → let l = c.add_if_ready.new in Back q l.counters l.norms l.entries l.counts
back c q = let l = c.add_if_ready.auto in record { cells = l.counters; norms = l.norms; words = l.entries; seats = l.counts }

pub offset_bounds-counters-s : goal.offset_bounds-counters-s
offset_bounds-counters-s c = let b = cell_piece (spanned (goal.at.offset_bounds-counters-s c).After-span_of-s) in search rules

pub slice_bounds-add_if_ready-count : goal.slice_bounds-add_if_ready-count
slice_bounds-add_if_ready-count c = let b = cell_piece (spanned (goal.at.slice_bounds-add_if_ready-count c).After-span_of-s) in search rules

pub slice_bounds-add_if_ready-start : goal.slice_bounds-add_if_ready-start
slice_bounds-add_if_ready-start c = let b = cell_piece (spanned (goal.at.slice_bounds-add_if_ready-start c).After-span_of-s) in search rules

pub slice_bounds-add_if_ready-end : goal.slice_bounds-add_if_ready-end
slice_bounds-add_if_ready-end c = let b = cell_piece (spanned (goal.at.slice_bounds-add_if_ready-end c).After-span_of-s) in search rules

pub offset_bounds-norms-s : goal.offset_bounds-norms-s
offset_bounds-norms-s c = let b = norm_piece (spanned (goal.at.offset_bounds-norms-s c).After-span_of-s) in search rules

pub slice_bounds-add_if_ready-count-2 : goal.slice_bounds-add_if_ready-count-2
slice_bounds-add_if_ready-count-2 c = let b = norm_piece (spanned (goal.at.slice_bounds-add_if_ready-count-2 c).After-span_of-s) in search rules

pub slice_bounds-add_if_ready-start-2 : goal.slice_bounds-add_if_ready-start-2
slice_bounds-add_if_ready-start-2 c = let b = norm_piece (spanned (goal.at.slice_bounds-add_if_ready-start-2 c).After-span_of-s) in search rules

pub slice_bounds-add_if_ready-end-2 : goal.slice_bounds-add_if_ready-end-2
slice_bounds-add_if_ready-end-2 c = let b = norm_piece (spanned (goal.at.slice_bounds-add_if_ready-end-2 c).After-span_of-s) in search rules

pub offset_bounds-entries-s : goal.offset_bounds-entries-s
offset_bounds-entries-s c = let b = word_piece (spanned (goal.at.offset_bounds-entries-s c).After-span_of-s) in search rules

pub slice_bounds-add_if_ready-count-3 : goal.slice_bounds-add_if_ready-count-3
slice_bounds-add_if_ready-count-3 c = let b = word_piece (spanned (goal.at.slice_bounds-add_if_ready-count-3 c).After-span_of-s) in search rules

pub slice_bounds-add_if_ready-start-3 : goal.slice_bounds-add_if_ready-start-3
slice_bounds-add_if_ready-start-3 c = let b = word_piece (spanned (goal.at.slice_bounds-add_if_ready-start-3 c).After-span_of-s) in search rules

pub slice_bounds-add_if_ready-end-3 : goal.slice_bounds-add_if_ready-end-3
slice_bounds-add_if_ready-end-3 c = let b = word_piece (spanned (goal.at.slice_bounds-add_if_ready-end-3 c).After-span_of-s) in search rules

pub offset_bounds-counts-s : goal.offset_bounds-counts-s
offset_bounds-counts-s c = let b = seat_piece (spanned (goal.at.offset_bounds-counts-s c).After-span_of-s) in search rules

pub slice_bounds-add_if_ready-count-4 : goal.slice_bounds-add_if_ready-count-4
slice_bounds-add_if_ready-count-4 c = let b = seat_piece (spanned (goal.at.slice_bounds-add_if_ready-count-4 c).After-span_of-s) in search rules

pub slice_bounds-add_if_ready-start-4 : goal.slice_bounds-add_if_ready-start-4
slice_bounds-add_if_ready-start-4 c = let b = seat_piece (spanned (goal.at.slice_bounds-add_if_ready-start-4 c).After-span_of-s) in search rules

pub slice_bounds-add_if_ready-end-4 : goal.slice_bounds-add_if_ready-end-4
slice_bounds-add_if_ready-end-4 c = let b = seat_piece (spanned (goal.at.slice_bounds-add_if_ready-end-4 c).After-span_of-s) in search rules

pub add_if_ready-requires : goal.add_if_ready-requires
add_if_ready-requires c = rw c.dims-d.ensures (record {
  housed = housed (spanned (goal.at.add_if_ready-requires c).After-span_of-s);
  entries_len = (word-length (spanned (goal.at.add_if_ready-requires c).After-span_of-s), c.requires.judge_ready.light);
})

pub returns-in_default-clause-value : goal.returns-in_default-clause-value
returns-in_default-clause-value c =
    let a = c.args in
    ready_handed a.«record».now a.weight (spanned (goal.at.returns-in_default-clause-value c).After-span_of-s) false
    (rw (c.dims-d.ensures, c.item_in-item.ensures) at (c.in_default.ensures.made_value (get_or a.flags.now a.l false)))

pub returns-clause-value : goal.returns-clause-value
returns-clause-value c =
    let a = c.args in
    ready_handed a.«record».now a.weight (spanned (goal.at.returns-clause-value c).After-span_of-s) true
    (rw (c.dims-d.ensures, c.item_in-item.ensures) at (c.in-Some.ensures.made_value (get_or a.flags.now a.l false)))

pub returns-clause-sent_one : goal.returns-clause-sent_one
returns-clause-sent_one c = λ t.
    let a = c.args in
    let f = get_or a.flags.now a.l false in
    sent-one a.«record».now a.weight (spanned (goal.at.returns-clause-sent_one c).After-span_of-s) _ _ _ _ c.in-Some.answer _ _ _ (back (goal.at.returns-clause-sent_one c).After-add_if_ready (spanned (goal.at.returns-clause-sent_one c).After-span_of-s))
    (rw (c.dims-d.ensures, c.item_in-item.ensures) at (c.in-Some.ensures.answer_value f))
    (rw (c.dims-d.ensures, c.item_in-item.ensures) at (c.in-Some.ensures.answer_value_2 f))
    (noted a.h a.lens.now a.flags.now a.l _ _ _ _ c.note.ensures.lens_after c.note.ensures.flags_after)
    (rw c.zero_places.ensures at c.note.ensures.list_after)
