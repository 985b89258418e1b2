-- `univmon_merge::layers::merge_one` meets its contract.
use Prim.Native.Nat.{◌+◌, ◌*◌, ◌≤◌}
use mathlib.Core.Path.{◌≡◌, sym, ap, ◌∙◌, ap₂}
use mathlib.Core.Bool.{Bool, false, ◌&&◌}
use lib.ListN.{get_or}
use lib.Dec.{leb}
use native.Mathlib.Omega.{arith}
use borrow.Author.Rules.{rules}
use Rattle.layout.specs.Slices.{lent, view, Lent}
use Rattle.layout.specs.Lending.{lent_read}
use Rattle.header.specs.Header.{with_layer}
use Rattle.layer.specs.Layer.{Layer}
use Rattle.layer.specs.inner.Needs.{layer_of}
use Rattle.header.specs.Shape.{max_layers, max_heap}
use Rattle.heap.specs.Places.{places}
use Rattle.layer.specs.Merge.{merge_layer, merge_answer}
use Rattle.layer.proofs.Merges.{merge-few}
use Rattle.layout.specs.State.{dims_at, layer_at}
use Rattle.univmon_merge.specs.inner.Pairs.{Paired, merges_with}
use Rattle.layout.proofs.Pieces.{Piece}
use Rattle.layout.proofs.Handed.{Spanned, handed, cell_piece, norm_piece, word_piece, seat_piece, handed_is, Back, back-view, back-standing}
use Rattle.univmon_merge.proofs.Pairing.{Second, layer_as, pair_inside, other-housed, other_is, merge-ready, flag_is, list_piece, list_length, list_back}
use Rattle.univmon_merge.proofs.layers.merge_one.Goals as goal
use Rattle.univmon_merge.proofs.layers.merge_one.Goals.{After-counts-1, After-layer-second, After-merge-m, After-span_of-s, After-touched, Start}

-- the two states that are lent, and where their layer stands
abbrev lent_of : Start → Lent
lent_of c = lent c.args.h c.args.counters.now c.args.norms.now c.args.entries.now c.args.counts.now

abbrev other-of : Start → Lent
other-of c = lent_read c.args.other

paired : (c : Start) → Paired (lent_of c) (other-of c) 1 c.args.l
paired c = c.requires.merge_ready.ready.paired

spanned : (c : After-span_of-s) → Spanned (lent_of (goal.at.After-span_of-s c).Start) c.args.l c.span_of-s.result
spanned c = record { standing = (paired (goal.at.After-span_of-s c).Start).standing; inside = pair_inside (paired (goal.at.After-span_of-s c).Start); is = c.span_of-s.ensures }

-- the second state's layer
second : (c : After-layer-second) → Second (lent_of (goal.at.After-layer-second c).Start) (other-of (goal.at.After-layer-second c).Start) c.args.l c.layer-second.result
second c =
    let e = c.layer-second.ensures in
    record { paired = paired (goal.at.After-layer-second c).Start; is = e.layer; dims = e.dims; housed = e.housed; words = e.entries_len }

-- the layer's places
pieced : (c : After-span_of-s) → let a = c.args in let w = 4 * a.h.shape.heap_size in Piece (w * a.l) (w * a.l + w) (w * a.l) w (4 * max_heap * max_layers) a.list.now
pieced c = list_piece (spanned c) c.args.list.now c.requires.layers_in_bounds

-- the parts that came back
back : (c : After-counts-1) → let l = c.merge-m.new in Back (spanned (goal.at.After-counts-1 c).After-span_of-s) l.counters l.norms l.entries l.counts
back c = record { cells = c.counters-1.given.0; norms = c.norms-1.given.0; words = c.entries-1.given.0; seats = c.counts-1.given.0 }

-- the flag of the merged layer
abbrev flag-of : (c : After-merge-m) → Bool
flag-of c = let a = c.args in get_or a.h.flags a.l false && c.layer-second.result.flag && leb c.merge-m.result.keys a.h.shape.heap_size

-- the layer as it came back
layer-now : (c : After-merge-m) → let a = c.args in let l = c.merge-m.new in
    layer_of (dims_at a.h.shape a.l) l.counters l.norms l.entries l.counts c.merge-m.result.len (flag-of c)
    ≡ merges_with a.h.shape (view (other-of (goal.at.After-merge-m c).Start)) a.l (layer_at (view (lent_of (goal.at.After-merge-m c).Start)) a.l)
layer-now c =
    let a = c.args in
    let sh = a.h.shape in
    let d = dims_at sh a.l in
    let y = c.layer-second.result in
    let k = other-housed (second (goal.at.After-merge-m c).After-layer-second) in
    rw c.dims-d.ensures at
    (c.merge-m.ensures.by_index y.norms.now y.counts.now (get_or a.h.flags a.l false) c.layer-second.result.flag (omega (arith, k.used, k.seats)))
    ∙ sym (ap₂ (merge_layer d) (handed_is (spanned (goal.at.After-merge-m c).After-span_of-s)) (other_is (second (goal.at.After-merge-m c).After-layer-second)))

-- its places as they came back
list-now : (c : After-merge-m) → let a = c.args in let sh = a.h.shape in
    c.merge-m.new.list ≡ places (2 * sh.heap_size) (merge_answer (dims_at sh a.l) (handed (lent_of (goal.at.After-merge-m c).Start) a.l c.span_of-s.result) (layer_as (dims_at sh a.l) c.layer-second.result))
list-now c =
    let a = c.args in
    let sh = a.h.shape in
    let d = dims_at sh a.l in
    let y = c.layer-second.result in
    let k = other-housed (second (goal.at.After-merge-m c).After-layer-second) in
    rw c.dims-d.ensures at
    (c.merge-m.ensures.by_index_2 y.norms.now y.counts.now (get_or a.h.flags a.l false) c.layer-second.result.flag (omega (arith, k.used, k.seats)))

-- the header as it is handed back
header-now : (c : After-touched) → let a = c.args in c.touched.result ≡ with_layer a.h a.l c.merge-m.result.len (flag-of (goal.at.After-touched c).After-merge-m)
header-now c =
    let a = c.args in
    c.touched.ensures
    ∙ ap (λ (b : Bool). with_layer a.h a.l c.merge-m.result.len b)
    (ap (λ (b : Bool). get_or a.h.flags a.l false && b) c.seated-whole.ensures ∙ flag_is (get_or a.h.flags a.l false) c.layer-second.result.flag (leb c.merge-m.result.keys a.h.shape.heap_size))

-- no more candidates than seats
few : (c : After-merge-m) → c.merge-m.result.len ≤ (dims_at c.args.h.shape c.args.l).size
few c =
    let a = c.args in
    rw (ap (λ (y : Layer). y.table.len) (layer-now c)) (merge-few (dims_at a.h.shape a.l) (layer_at (view (lent_of (goal.at.After-merge-m c).Start)) a.l) (layer_at (view (other-of (goal.at.After-merge-m c).Start)) a.l))

pub span_of-s-requires : goal.span_of-s-requires
span_of-s-requires c = record {
  accepted = (paired (goal.at.span_of-s-requires c).Start).standing.accepted;
  l_lt_layers = pair_inside (paired (goal.at.span_of-s-requires c).Start);
}

pub offset_bounds-lens-l : goal.offset_bounds-lens-l
offset_bounds-lens-l c = let p = (paired (goal.at.offset_bounds-lens-l c).Start).standing.accepted.few in let i = pair_inside (paired (goal.at.offset_bounds-lens-l c).Start) in search rules

pub bounds-lens-l : goal.bounds-lens-l
bounds-lens-l c = let p = (paired (goal.at.bounds-lens-l c).Start).standing.accepted.few in let i = pair_inside (paired (goal.at.bounds-lens-l c).Start) in search rules

pub overflow_mul-width : goal.overflow_mul-width
overflow_mul-width c = record { fits = omega (arith, (paired (goal.at.overflow_mul-width c).Start).standing.accepted.small) }

pub overflow_mul-pa : goal.overflow_mul-pa
overflow_mul-pa c = record { fits = omega (arith, (pieced (goal.at.overflow_mul-pa c).After-span_of-s).small) }

pub overflow_add-pe : goal.overflow_add-pe
overflow_add-pe c = record { fits = omega (arith, (pieced (goal.at.overflow_add-pe c).After-span_of-s).small, (paired (goal.at.overflow_add-pe c).Start).standing.accepted.small) }

pub offset_bounds-counters-ca : goal.offset_bounds-counters-ca
offset_bounds-counters-ca c = let b = cell_piece (spanned (goal.at.offset_bounds-counters-ca c).After-span_of-s) in search rules

pub slice_bounds-merge-count : goal.slice_bounds-merge-count
slice_bounds-merge-count c = let b = cell_piece (spanned (goal.at.slice_bounds-merge-count c).After-span_of-s) in search rules

pub slice_bounds-merge-start : goal.slice_bounds-merge-start
slice_bounds-merge-start c = let b = cell_piece (spanned (goal.at.slice_bounds-merge-start c).After-span_of-s) in search rules

pub slice_bounds-merge-end : goal.slice_bounds-merge-end
slice_bounds-merge-end c = let b = cell_piece (spanned (goal.at.slice_bounds-merge-end c).After-span_of-s) in search rules

pub offset_bounds-norms-na : goal.offset_bounds-norms-na
offset_bounds-norms-na c = let b = norm_piece (spanned (goal.at.offset_bounds-norms-na c).After-span_of-s) in search rules

pub slice_bounds-merge-count-2 : goal.slice_bounds-merge-count-2
slice_bounds-merge-count-2 c = let b = norm_piece (spanned (goal.at.slice_bounds-merge-count-2 c).After-span_of-s) in search rules

pub slice_bounds-merge-start-2 : goal.slice_bounds-merge-start-2
slice_bounds-merge-start-2 c = let b = norm_piece (spanned (goal.at.slice_bounds-merge-start-2 c).After-span_of-s) in search rules

pub slice_bounds-merge-end-2 : goal.slice_bounds-merge-end-2
slice_bounds-merge-end-2 c = let b = norm_piece (spanned (goal.at.slice_bounds-merge-end-2 c).After-span_of-s) in search rules

pub offset_bounds-entries-ea : goal.offset_bounds-entries-ea
offset_bounds-entries-ea c = let b = word_piece (spanned (goal.at.offset_bounds-entries-ea c).After-span_of-s) in search rules

pub slice_bounds-merge-count-3 : goal.slice_bounds-merge-count-3
slice_bounds-merge-count-3 c = let b = word_piece (spanned (goal.at.slice_bounds-merge-count-3 c).After-span_of-s) in search rules

pub slice_bounds-merge-start-3 : goal.slice_bounds-merge-start-3
slice_bounds-merge-start-3 c = let b = word_piece (spanned (goal.at.slice_bounds-merge-start-3 c).After-span_of-s) in search rules

pub slice_bounds-merge-end-3 : goal.slice_bounds-merge-end-3
slice_bounds-merge-end-3 c = let b = word_piece (spanned (goal.at.slice_bounds-merge-end-3 c).After-span_of-s) in search rules

pub offset_bounds-counts-ta : goal.offset_bounds-counts-ta
offset_bounds-counts-ta c = let b = seat_piece (spanned (goal.at.offset_bounds-counts-ta c).After-span_of-s) in search rules

pub slice_bounds-merge-count-4 : goal.slice_bounds-merge-count-4
slice_bounds-merge-count-4 c = let b = seat_piece (spanned (goal.at.slice_bounds-merge-count-4 c).After-span_of-s) in search rules

pub slice_bounds-merge-start-4 : goal.slice_bounds-merge-start-4
slice_bounds-merge-start-4 c = let b = seat_piece (spanned (goal.at.slice_bounds-merge-start-4 c).After-span_of-s) in search rules

pub slice_bounds-merge-end-4 : goal.slice_bounds-merge-end-4
slice_bounds-merge-end-4 c = let b = seat_piece (spanned (goal.at.slice_bounds-merge-end-4 c).After-span_of-s) in search rules

pub offset_bounds-list-pa : goal.offset_bounds-list-pa
offset_bounds-list-pa c = let b = pieced (goal.at.offset_bounds-list-pa c).After-span_of-s in search rules

pub slice_bounds-merge-count-5 : goal.slice_bounds-merge-count-5
slice_bounds-merge-count-5 c = let b = pieced (goal.at.slice_bounds-merge-count-5 c).After-span_of-s in search rules

pub slice_bounds-merge-start-5 : goal.slice_bounds-merge-start-5
slice_bounds-merge-start-5 c = let b = pieced (goal.at.slice_bounds-merge-start-5 c).After-span_of-s in search rules

pub slice_bounds-merge-end-5 : goal.slice_bounds-merge-end-5
slice_bounds-merge-end-5 c = let b = pieced (goal.at.slice_bounds-merge-end-5 c).After-span_of-s in search rules

pub merge-m-requires : goal.merge-m-requires
merge-m-requires c = rw c.dims-d.ensures (record {
  layer_merge_ready = merge-ready c.requires.merge_ready (spanned (goal.at.merge-m-requires c).After-span_of-s) (second (goal.at.merge-m-requires c).After-layer-second);
  list_len = list_length (spanned (goal.at.merge-m-requires c).After-span_of-s) c.args.list.now c.requires.layers_in_bounds;
})

pub touched-requires : goal.touched-requires
touched-requires c = omega (arith, pair_inside (paired (goal.at.touched-requires c).Start), (paired (goal.at.touched-requires c).Start).standing.accepted.few)

pub returns : goal.returns
returns c = record {
  counts_value = rw (header-now (goal.at.returns c).After-touched) (back-view (spanned (goal.at.returns c).After-span_of-s) _ _ _ _ _ _ _ (back (goal.at.returns c).After-counts-1) (layer-now (goal.at.returns c).After-merge-m));
  standing = rw (header-now (goal.at.returns c).After-touched) (back-standing (spanned (goal.at.returns c).After-span_of-s) _ _ _ _ _ _ (back (goal.at.returns c).After-counts-1) (few (goal.at.returns c).After-merge-m));
  list_after = list_back (spanned (goal.at.returns c).After-span_of-s) c.args.list.now c.requires.layers_in_bounds (second (goal.at.returns c).After-layer-second) _ (list-now (goal.at.returns c).After-merge-m);
}
