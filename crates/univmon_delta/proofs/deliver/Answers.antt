-- `univmon_delta::deliver` meets its contract.
use Prim.Native.Nat.{◌≤◌}
use mathlib.Core.Path.{◌≡◌, sym, ap, ◌∙◌}
use mathlib.Core.Bool.{false, ◌&&◌}
use lib.ListN.{get_or}
use native.Mathlib.Omega.{arith}
use borrow.Author.Rules.{rules}
use mir.Facts.{to_z-of_z}
use Rattle.header.specs.Header.{with_layer}
use Rattle.layout.specs.Slices.{lent, view, Lent}
use Rattle.layer.specs.Layer.{Layer}
use Rattle.layer.specs.inner.Needs.{layer_of, delta}
use Rattle.layer.specs.Delta.{delta_layer, delta_answer}
use Rattle.layer.proofs.Steps.{delta-few}
use Rattle.layout.specs.State.{dims_at, layer_at}
use Rattle.layout.specs.Records.{item_at}
use Rattle.heap.specs.Offer.{kept_by, len_by}
use Rattle.heap.specs.inner.Telling.{tell_at}
use Rattle.layout.proofs.Handed.{Spanned, cell_piece, norm_piece, word_piece, seat_piece, handed_is, Back, back-view, back-standing}
use Rattle.univmon_delta.proofs.Arrivals.{arrive_ready}
use Rattle.univmon_delta.proofs.deliver.Goals as goal
use Rattle.univmon_delta.proofs.deliver.Goals.{After-apply_delta-answer, After-counts-1, After-span_of-s, After-tell_at, After-touched, Start}

-- the state that is lent, and where its layer stands
abbrev lent_of : Start → Lent
lent_of c = lent c.args.h c.args.counters.now c.args.norms.now c.args.entries.now c.args.counts.now

spanned : (c : After-span_of-s) → Spanned (lent_of (goal.at.After-span_of-s c).Start) c.args.l c.span_of-s.result
spanned c = record { standing = c.requires.arrives.placed.standing; inside = c.requires.arrives.placed.inside; is = c.span_of-s.ensures }

-- the parts that came back
back : (c : After-counts-1) → let l = c.apply_delta-answer.new in Back (spanned (goal.at.After-counts-1 c).After-span_of-s) l.counters l.norms l.entries l.counts
back c = record { cells = c.counters-1.given.0; norms = c.norms-1.given.0; words = c.entries-1.given.0; seats = c.counts-1.given.0 }

-- the layer as it came back
layer-now : (c : After-apply_delta-answer) → let a = c.args in let l = c.apply_delta-answer.new in let f = get_or a.h.flags a.l false in
    layer_of (dims_at a.h.shape a.l) l.counters l.norms l.entries l.counts (len_by c.apply_delta-answer.result (get_or a.h.lens a.l 0)) (f && (kept_by c.apply_delta-answer.result && a.every))
    ≡ delta_layer (dims_at a.h.shape a.l) (delta a.row a.col a.count (item_at a.«record».now a.l) a.every) (layer_at (view (lent_of (goal.at.After-apply_delta-answer c).Start)) a.l)
layer-now c =
    let a = c.args in
    rw (c.dims-d.ensures, c.item_in-item.ensures, to_z-of_z c.ranges.count) at (c.apply_delta-answer.ensures.every_value (get_or a.h.flags a.l false) a.every)
    ∙ ap (delta_layer (dims_at a.h.shape a.l) (delta a.row a.col a.count (item_at a.«record».now a.l) a.every)) (sym (handed_is (spanned (goal.at.After-apply_delta-answer c).After-span_of-s)))

-- what the offer did, and the list that tells it
answer-now : (c : After-apply_delta-answer) → let a = c.args in
    c.apply_delta-answer.result ≡ delta_answer (dims_at a.h.shape a.l) (delta a.row a.col a.count (item_at a.«record».now a.l) a.every) (layer_at (view (lent_of (goal.at.After-apply_delta-answer c).Start)) a.l)
answer-now c =
    let a = c.args in
    rw (c.dims-d.ensures, c.item_in-item.ensures, to_z-of_z c.ranges.count) at (c.apply_delta-answer.ensures.value (get_or a.h.flags a.l false) a.every)
    ∙ ap (delta_answer (dims_at a.h.shape a.l) (delta a.row a.col a.count (item_at a.«record».now a.l) a.every)) (sym (handed_is (spanned (goal.at.After-apply_delta-answer c).After-span_of-s)))

told : (c : After-tell_at) → let a = c.args in
    c.tell_at.new.list ≡ tell_at a.list.now a.l (delta_answer (dims_at a.h.shape a.l) (delta a.row a.col a.count (item_at a.«record».now a.l) a.every) (layer_at (view (lent_of (goal.at.After-tell_at c).Start)) a.l))
told c = c.tell_at.ensures ∙ ap (tell_at c.args.list.now c.args.l) (answer-now (goal.at.After-tell_at c).After-apply_delta-answer)

-- the header as it is handed back
header-now : (c : After-touched) → let a = c.args in
    c.touched.result ≡ with_layer a.h a.l (len_by c.apply_delta-answer.result (get_or a.h.lens a.l 0)) (get_or a.h.flags a.l false && (kept_by c.apply_delta-answer.result && a.every))
header-now c = rw (c.len_after.ensures, c.kept_all.ensures) at c.touched.ensures

-- no more candidates than seats
few : (c : After-apply_delta-answer) → len_by c.apply_delta-answer.result (get_or c.args.h.lens c.args.l 0) ≤ (dims_at c.args.h.shape c.args.l).size
unfolding layer_at view
few c =
    let a = c.args in
    rw (ap (λ (y : Layer). y.table.len) (layer-now c))
    (delta-few (dims_at a.h.shape a.l) (delta a.row a.col a.count (item_at a.«record».now a.l) a.every) (layer_at (view (lent_of (goal.at.After-apply_delta-answer c).Start)) a.l) (c.requires.arrives.placed.standing.lens a.l c.requires.arrives.placed.inside))

pub span_of-s-requires : goal.span_of-s-requires
span_of-s-requires c = record {
  accepted = c.requires.arrives.placed.standing.accepted;
  l_lt_layers = c.requires.arrives.placed.inside;
}

pub item_in-item-requires : goal.item_in-item-requires
item_in-item-requires c = let p = c.requires.arrives.placed in (omega (arith, p.inside, p.standing.accepted.few), omega (arith, p.inside, p.recorded))

pub offset_bounds-lens-l : goal.offset_bounds-lens-l
offset_bounds-lens-l c = let p = c.requires.arrives.placed in let q = p.standing.accepted.few in let i = p.inside in search rules

pub bounds-lens-l : goal.bounds-lens-l
bounds-lens-l c = let p = c.requires.arrives.placed in let q = p.standing.accepted.few in let i = p.inside in search rules

pub offset_bounds-counters-ca : goal.offset_bounds-counters-ca
offset_bounds-counters-ca c = let b = cell_piece (spanned (goal.at.offset_bounds-counters-ca c).After-span_of-s) in search rules

pub slice_bounds-apply_delta-count : goal.slice_bounds-apply_delta-count
slice_bounds-apply_delta-count c = let b = cell_piece (spanned (goal.at.slice_bounds-apply_delta-count c).After-span_of-s) in search rules

pub slice_bounds-apply_delta-start : goal.slice_bounds-apply_delta-start
slice_bounds-apply_delta-start c = let b = cell_piece (spanned (goal.at.slice_bounds-apply_delta-start c).After-span_of-s) in search rules

pub slice_bounds-apply_delta-end : goal.slice_bounds-apply_delta-end
slice_bounds-apply_delta-end c = let b = cell_piece (spanned (goal.at.slice_bounds-apply_delta-end c).After-span_of-s) in search rules

pub offset_bounds-norms-na : goal.offset_bounds-norms-na
offset_bounds-norms-na c = let b = norm_piece (spanned (goal.at.offset_bounds-norms-na c).After-span_of-s) in search rules

pub slice_bounds-apply_delta-count-2 : goal.slice_bounds-apply_delta-count-2
slice_bounds-apply_delta-count-2 c = let b = norm_piece (spanned (goal.at.slice_bounds-apply_delta-count-2 c).After-span_of-s) in search rules

pub slice_bounds-apply_delta-start-2 : goal.slice_bounds-apply_delta-start-2
slice_bounds-apply_delta-start-2 c = let b = norm_piece (spanned (goal.at.slice_bounds-apply_delta-start-2 c).After-span_of-s) in search rules

pub slice_bounds-apply_delta-end-2 : goal.slice_bounds-apply_delta-end-2
slice_bounds-apply_delta-end-2 c = let b = norm_piece (spanned (goal.at.slice_bounds-apply_delta-end-2 c).After-span_of-s) in search rules

pub offset_bounds-entries-ea : goal.offset_bounds-entries-ea
offset_bounds-entries-ea c = let b = word_piece (spanned (goal.at.offset_bounds-entries-ea c).After-span_of-s) in search rules

pub slice_bounds-apply_delta-count-3 : goal.slice_bounds-apply_delta-count-3
slice_bounds-apply_delta-count-3 c = let b = word_piece (spanned (goal.at.slice_bounds-apply_delta-count-3 c).After-span_of-s) in search rules

pub slice_bounds-apply_delta-start-3 : goal.slice_bounds-apply_delta-start-3
slice_bounds-apply_delta-start-3 c = let b = word_piece (spanned (goal.at.slice_bounds-apply_delta-start-3 c).After-span_of-s) in search rules

pub slice_bounds-apply_delta-end-3 : goal.slice_bounds-apply_delta-end-3
slice_bounds-apply_delta-end-3 c = let b = word_piece (spanned (goal.at.slice_bounds-apply_delta-end-3 c).After-span_of-s) in search rules

pub offset_bounds-counts-ta : goal.offset_bounds-counts-ta
offset_bounds-counts-ta c = let b = seat_piece (spanned (goal.at.offset_bounds-counts-ta c).After-span_of-s) in search rules

pub slice_bounds-apply_delta-count-4 : goal.slice_bounds-apply_delta-count-4
slice_bounds-apply_delta-count-4 c = let b = seat_piece (spanned (goal.at.slice_bounds-apply_delta-count-4 c).After-span_of-s) in search rules

pub slice_bounds-apply_delta-start-4 : goal.slice_bounds-apply_delta-start-4
slice_bounds-apply_delta-start-4 c = let b = seat_piece (spanned (goal.at.slice_bounds-apply_delta-start-4 c).After-span_of-s) in search rules

pub slice_bounds-apply_delta-end-4 : goal.slice_bounds-apply_delta-end-4
slice_bounds-apply_delta-end-4 c = let b = seat_piece (spanned (goal.at.slice_bounds-apply_delta-end-4 c).After-span_of-s) in search rules

pub apply_delta-answer-requires : goal.apply_delta-answer-requires
apply_delta-answer-requires c = rw (c.dims-d.ensures, c.item_in-item.ensures, to_z-of_z c.ranges.count) (arrive_ready c.requires.arrives (spanned (goal.at.apply_delta-answer-requires c).After-span_of-s))

pub tell_at-requires : goal.tell_at-requires
tell_at-requires c = c.requires.l_in_bounds

pub len_after-requires : goal.len_after-requires
len_after-requires c = let z = c.requires.arrives.placed.standing in omega (arith, z.lens c.args.l c.requires.arrives.placed.inside, z.accepted.small)

pub touched-requires : goal.touched-requires
touched-requires c = let p = c.requires.arrives.placed in omega (arith, p.inside, p.standing.accepted.few)

pub returns : goal.returns
returns c = record {
  counts_value = rw (header-now (goal.at.returns c).After-touched) (back-view (spanned (goal.at.returns c).After-span_of-s) _ _ _ _ _ _ _ (back (goal.at.returns c).After-counts-1) (layer-now (goal.at.returns c).After-apply_delta-answer));
  standing = rw (header-now (goal.at.returns c).After-touched) (back-standing (spanned (goal.at.returns c).After-span_of-s) _ _ _ _ _ _ (back (goal.at.returns c).After-counts-1) (few (goal.at.returns c).After-apply_delta-answer));
  list_after = told (goal.at.returns c).After-tell_at;
}
