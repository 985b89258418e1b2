-- `univmon::update::send_one` meets its contract.
use mathlib.Core.Bool.{false}
use lib.ListN.{get_or}
use borrow.Author.Rules.{rules}
use Rattle.header.specs.Header.{head_of}
use Rattle.layout.specs.Slices.{lent, Lent}
use Rattle.layout.proofs.Handed.{Spanned, cell_piece, norm_piece, word_piece, seat_piece, Back}
use Rattle.univmon.proofs.Sends.{send-ready, sent-one, noted}
use Rattle.univmon.proofs.update.send_one.Goals as goal
use Rattle.univmon.proofs.update.send_one.Goals.{After-add-answer, After-span_of-s, Start}

-- the state that is lent, and where its layer stands
abbrev lent_of : Start → Lent
lent_of c = lent (head_of c.args.h c.args.lens.now c.args.flags.now) c.args.counters.now c.args.norms.now c.args.entries.now c.args.counts.now

spanned : (c : After-span_of-s) → Spanned ((lent (head_of c.args.h c.args.lens.now c.args.flags.now) c.args.counters.now c.args.norms.now c.args.entries.now c.args.counts.now)) c.args.l c.span_of-s.result
spanned c = record { standing = c.requires.send_ready.standing; inside = c.requires.send_ready.inside; is = c.span_of-s.ensures }

-- the parts that came back
back : (c : After-add-answer) (q : Spanned ((lent (head_of c.args.h c.args.lens.now c.args.flags.now) c.args.counters.now c.args.norms.now c.args.entries.now c.args.counts.now)) c.args.l c.span_of-s.result) → let l = c.add-answer.new in Back q l.counters l.norms l.entries l.counts
back c q = let l = c.add-answer.auto in record { cells = l.counters; norms = l.norms; words = l.entries; seats = l.counts }

pub offset_bounds-counters-s : goal.offset_bounds-counters-s
offset_bounds-counters-s c = let b = cell_piece (spanned (goal.at.offset_bounds-counters-s c).After-span_of-s) in search rules

pub slice_bounds-add-count : goal.slice_bounds-add-count
slice_bounds-add-count c = let b = cell_piece (spanned (goal.at.slice_bounds-add-count c).After-span_of-s) in search rules

pub slice_bounds-add-start : goal.slice_bounds-add-start
slice_bounds-add-start c = let b = cell_piece (spanned (goal.at.slice_bounds-add-start c).After-span_of-s) in search rules

pub slice_bounds-add-end : goal.slice_bounds-add-end
slice_bounds-add-end c = let b = cell_piece (spanned (goal.at.slice_bounds-add-end c).After-span_of-s) in search rules

pub offset_bounds-norms-s : goal.offset_bounds-norms-s
offset_bounds-norms-s c = let b = norm_piece (spanned (goal.at.offset_bounds-norms-s c).After-span_of-s) in search rules

pub slice_bounds-add-count-2 : goal.slice_bounds-add-count-2
slice_bounds-add-count-2 c = let b = norm_piece (spanned (goal.at.slice_bounds-add-count-2 c).After-span_of-s) in search rules

pub slice_bounds-add-start-2 : goal.slice_bounds-add-start-2
slice_bounds-add-start-2 c = let b = norm_piece (spanned (goal.at.slice_bounds-add-start-2 c).After-span_of-s) in search rules

pub slice_bounds-add-end-2 : goal.slice_bounds-add-end-2
slice_bounds-add-end-2 c = let b = norm_piece (spanned (goal.at.slice_bounds-add-end-2 c).After-span_of-s) in search rules

pub offset_bounds-entries-s : goal.offset_bounds-entries-s
offset_bounds-entries-s c = let b = word_piece (spanned (goal.at.offset_bounds-entries-s c).After-span_of-s) in search rules

pub slice_bounds-add-count-3 : goal.slice_bounds-add-count-3
slice_bounds-add-count-3 c = let b = word_piece (spanned (goal.at.slice_bounds-add-count-3 c).After-span_of-s) in search rules

pub slice_bounds-add-start-3 : goal.slice_bounds-add-start-3
slice_bounds-add-start-3 c = let b = word_piece (spanned (goal.at.slice_bounds-add-start-3 c).After-span_of-s) in search rules

pub slice_bounds-add-end-3 : goal.slice_bounds-add-end-3
slice_bounds-add-end-3 c = let b = word_piece (spanned (goal.at.slice_bounds-add-end-3 c).After-span_of-s) in search rules

pub offset_bounds-counts-s : goal.offset_bounds-counts-s
offset_bounds-counts-s c = let b = seat_piece (spanned (goal.at.offset_bounds-counts-s c).After-span_of-s) in search rules

pub slice_bounds-add-count-4 : goal.slice_bounds-add-count-4
slice_bounds-add-count-4 c = let b = seat_piece (spanned (goal.at.slice_bounds-add-count-4 c).After-span_of-s) in search rules

pub slice_bounds-add-start-4 : goal.slice_bounds-add-start-4
slice_bounds-add-start-4 c = let b = seat_piece (spanned (goal.at.slice_bounds-add-start-4 c).After-span_of-s) in search rules

pub slice_bounds-add-end-4 : goal.slice_bounds-add-end-4
slice_bounds-add-end-4 c = let b = seat_piece (spanned (goal.at.slice_bounds-add-end-4 c).After-span_of-s) in search rules

pub add-answer-requires : goal.add-answer-requires
add-answer-requires c = rw (c.dims-d.ensures, c.item_in-item.ensures) (send-ready c.requires.send_ready (spanned (goal.at.add-answer-requires c).After-span_of-s))

pub returns : goal.returns
returns c =
    let a = c.args in
    let f = get_or a.flags.now a.l false in
    sent-one a.«record».now a.weight (spanned (goal.at.returns c).After-span_of-s) _ _ _ _ c.add-answer.result _ _ _ (back (goal.at.returns c).After-add-answer (spanned (goal.at.returns c).After-span_of-s))
    (rw (c.dims-d.ensures, c.item_in-item.ensures) at (c.add-answer.ensures.result_value f))
    (rw (c.dims-d.ensures, c.item_in-item.ensures) at (c.add-answer.ensures.value f))
    (noted a.h a.lens.now a.flags.now a.l _ _ _ _ c.note.ensures.lens_after c.note.ensures.flags_after)
    c.note.ensures.list_after
