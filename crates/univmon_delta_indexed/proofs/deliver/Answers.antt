-- `univmon_delta_indexed::deliver` meets its contract.
use mathlib.Core.Path.{◌≡◌}
use mathlib.Core.Bool.{false, ◌&&◌}
use lib.ListN.{get_or}
use native.Mathlib.Omega.{arith}
use borrow.Author.Rules.{rules}
use mir.Facts.{to_z-of_z}
use Rattle.heap.specs.Offer.{kept_by, len_by}
use Rattle.header.specs.Header.{with_layer}
use Rattle.layer.specs.Delta.{Delta}
use Rattle.layer.specs.inner.Needs.{layer_of, delta}
use Rattle.layer_indexed.specs.Adding.{delta_layer_in, delta_index_in, delta_answer_in}
use Rattle.layout.specs.State.{dims_at}
use Rattle.layout.specs.Slices.{Lent, lent}
use Rattle.layout.specs.Records.{item_at}
use Rattle.layout.proofs.Handed.{Spanned, cell_piece, norm_piece, word_piece, seat_piece, handed, Back}
use Rattle.layout_index.proofs.Handed.{Tabled, table_part, table_piece}
use Rattle.univmon_delta_indexed.proofs.Arrivals.{ready, told-one, view-one, standing-one, index-one}
use Rattle.univmon_delta_indexed.proofs.deliver.Goals as goal
use Rattle.univmon_delta_indexed.proofs.deliver.Goals.{After-apply_delta-answer, After-counts-1, After-span_of-s, After-table_span-t, After-touched, Start}

-- the state that is lent, the delta, and where layer and table stand
abbrev lent_of : Start → Lent
lent_of c = lent c.args.h c.args.counters.now c.args.norms.now c.args.entries.now c.args.counts.now

abbrev delta-of : Start → Delta
delta-of c = delta c.args.row c.args.col c.args.count (item_at c.args.«record».now c.args.l) c.args.every

spanned : (c : After-span_of-s) → Spanned (lent_of (goal.at.After-span_of-s c).Start) c.args.l c.span_of-s.result
spanned c = let p = c.requires.arrives_in.placed.placed in record { standing = p.standing; inside = p.inside; is = c.span_of-s.ensures }

tabled : (c : After-table_span-t) → Tabled (lent_of (goal.at.After-table_span-t c).Start) c.args.index.now c.args.l c.table_span-t.result
tabled c =
    let p = c.requires.arrives_in.placed in
    record { standing = record { standing = p.placed.standing; tables = p.tables }; inside = p.placed.inside; is = c.table_span-t.ensures }

-- the parts that came back
back : (c : After-counts-1) → let l = c.apply_delta-answer.new in Back (spanned (goal.at.After-counts-1 c).After-span_of-s) l.counters l.norms l.entries l.counts
back c = record { cells = c.counters-1.given.0; norms = c.norms-1.given.0; words = c.entries-1.given.0; seats = c.counts-1.given.0 }

-- the layer as it came back, what the offer did, and the table
layer-now : (c : After-apply_delta-answer) → let a = c.args in let l = c.apply_delta-answer.new in let f = get_or a.h.flags a.l false in
    layer_of (dims_at a.h.shape a.l) l.counters l.norms l.entries l.counts (len_by c.apply_delta-answer.result (get_or a.h.lens a.l 0)) (f && (kept_by c.apply_delta-answer.result && a.every))
    ≡ delta_layer_in (dims_at a.h.shape a.l) (delta-of (goal.at.After-apply_delta-answer c).Start) (table_part c.table_span-t.result a.index.now) (handed (lent_of (goal.at.After-apply_delta-answer c).Start) a.l c.span_of-s.result)
layer-now c =
    let a = c.args in
    rw (c.dims-d.ensures, c.item_in-item.ensures, to_z-of_z c.ranges.count) at (c.apply_delta-answer.ensures.every_value (get_or a.h.flags a.l false) a.every)

answer-now : (c : After-apply_delta-answer) → let a = c.args in
    c.apply_delta-answer.result
    ≡ delta_answer_in (dims_at a.h.shape a.l) (delta-of (goal.at.After-apply_delta-answer c).Start) (table_part c.table_span-t.result a.index.now) (handed (lent_of (goal.at.After-apply_delta-answer c).Start) a.l c.span_of-s.result)
answer-now c =
    let a = c.args in
    rw (c.dims-d.ensures, c.item_in-item.ensures, to_z-of_z c.ranges.count) at (c.apply_delta-answer.ensures.value (get_or a.h.flags a.l false) a.every)

table-now : (c : After-apply_delta-answer) → let a = c.args in
    c.apply_delta-answer.new.index
    ≡ delta_index_in (dims_at a.h.shape a.l) (delta-of (goal.at.After-apply_delta-answer c).Start) (table_part c.table_span-t.result a.index.now) (handed (lent_of (goal.at.After-apply_delta-answer c).Start) a.l c.span_of-s.result)
table-now c =
    let a = c.args in
    rw (c.dims-d.ensures, c.item_in-item.ensures, to_z-of_z c.ranges.count) at (c.apply_delta-answer.ensures.index_after (get_or a.h.flags a.l false) a.every)

-- the header as it is handed back
header-now : (c : After-touched) → let a = c.args in
    c.touched.result ≡ with_layer a.h a.l (len_by c.apply_delta-answer.result (get_or a.h.lens a.l 0)) (get_or a.h.flags a.l false && (kept_by c.apply_delta-answer.result && a.every))
header-now c = rw (c.len_after.ensures, c.kept_all.ensures) at c.touched.ensures

pub span_of-s-requires : goal.span_of-s-requires
span_of-s-requires c = let p = c.requires.arrives_in.placed.placed in record {
  accepted = p.standing.accepted;
  l_lt_layers = p.inside;
}

pub table_span-t-requires : goal.table_span-t-requires
table_span-t-requires c = let p = c.requires.arrives_in.placed.placed in record {
  accepted = p.standing.accepted;
  l_lt_layers = p.inside;
}

pub item_in-item-requires : goal.item_in-item-requires
item_in-item-requires c = let p = c.requires.arrives_in.placed.placed in (omega (arith, p.inside, p.standing.accepted.few), omega (arith, p.inside, p.recorded))

pub offset_bounds-lens-l : goal.offset_bounds-lens-l
offset_bounds-lens-l c = let p = c.requires.arrives_in.placed.placed in let q = p.standing.accepted.few in let i = p.inside in search rules

pub bounds-lens-l : goal.bounds-lens-l
bounds-lens-l c = let p = c.requires.arrives_in.placed.placed in let q = p.standing.accepted.few in let i = p.inside in search rules

pub offset_bounds-counters-ca : goal.offset_bounds-counters-ca
offset_bounds-counters-ca c = let b = cell_piece (spanned (goal.at.offset_bounds-counters-ca c).After-span_of-s) in search rules

pub slice_bounds-apply_delta-count : goal.slice_bounds-apply_delta-count
slice_bounds-apply_delta-count c = let b = cell_piece (spanned (goal.at.slice_bounds-apply_delta-count c).After-span_of-s) in search rules

pub slice_bounds-apply_delta-start : goal.slice_bounds-apply_delta-start
slice_bounds-apply_delta-start c = let b = cell_piece (spanned (goal.at.slice_bounds-apply_delta-start c).After-span_of-s) in search rules

pub slice_bounds-apply_delta-end : goal.slice_bounds-apply_delta-end
slice_bounds-apply_delta-end c = let b = cell_piece (spanned (goal.at.slice_bounds-apply_delta-end c).After-span_of-s) in search rules

pub offset_bounds-norms-na : goal.offset_bounds-norms-na
offset_bounds-norms-na c = let b = norm_piece (spanned (goal.at.offset_bounds-norms-na c).After-span_of-s) in search rules

pub slice_bounds-apply_delta-count-2 : goal.slice_bounds-apply_delta-count-2
slice_bounds-apply_delta-count-2 c = let b = norm_piece (spanned (goal.at.slice_bounds-apply_delta-count-2 c).After-span_of-s) in search rules

pub slice_bounds-apply_delta-start-2 : goal.slice_bounds-apply_delta-start-2
slice_bounds-apply_delta-start-2 c = let b = norm_piece (spanned (goal.at.slice_bounds-apply_delta-start-2 c).After-span_of-s) in search rules

pub slice_bounds-apply_delta-end-2 : goal.slice_bounds-apply_delta-end-2
slice_bounds-apply_delta-end-2 c = let b = norm_piece (spanned (goal.at.slice_bounds-apply_delta-end-2 c).After-span_of-s) in search rules

pub offset_bounds-entries-ea : goal.offset_bounds-entries-ea
offset_bounds-entries-ea c = let b = word_piece (spanned (goal.at.offset_bounds-entries-ea c).After-span_of-s) in search rules

pub slice_bounds-apply_delta-count-3 : goal.slice_bounds-apply_delta-count-3
slice_bounds-apply_delta-count-3 c = let b = word_piece (spanned (goal.at.slice_bounds-apply_delta-count-3 c).After-span_of-s) in search rules

pub slice_bounds-apply_delta-start-3 : goal.slice_bounds-apply_delta-start-3
slice_bounds-apply_delta-start-3 c = let b = word_piece (spanned (goal.at.slice_bounds-apply_delta-start-3 c).After-span_of-s) in search rules

pub slice_bounds-apply_delta-end-3 : goal.slice_bounds-apply_delta-end-3
slice_bounds-apply_delta-end-3 c = let b = word_piece (spanned (goal.at.slice_bounds-apply_delta-end-3 c).After-span_of-s) in search rules

pub offset_bounds-counts-ta : goal.offset_bounds-counts-ta
offset_bounds-counts-ta c = let b = seat_piece (spanned (goal.at.offset_bounds-counts-ta c).After-span_of-s) in search rules

pub slice_bounds-apply_delta-count-4 : goal.slice_bounds-apply_delta-count-4
slice_bounds-apply_delta-count-4 c = let b = seat_piece (spanned (goal.at.slice_bounds-apply_delta-count-4 c).After-span_of-s) in search rules

pub slice_bounds-apply_delta-start-4 : goal.slice_bounds-apply_delta-start-4
slice_bounds-apply_delta-start-4 c = let b = seat_piece (spanned (goal.at.slice_bounds-apply_delta-start-4 c).After-span_of-s) in search rules

pub slice_bounds-apply_delta-end-4 : goal.slice_bounds-apply_delta-end-4
slice_bounds-apply_delta-end-4 c = let b = seat_piece (spanned (goal.at.slice_bounds-apply_delta-end-4 c).After-span_of-s) in search rules

pub offset_bounds-index-ia : goal.offset_bounds-index-ia
offset_bounds-index-ia c = let b = table_piece (tabled (goal.at.offset_bounds-index-ia c).After-table_span-t) in search rules

pub slice_bounds-apply_delta-count-5 : goal.slice_bounds-apply_delta-count-5
slice_bounds-apply_delta-count-5 c = let b = table_piece (tabled (goal.at.slice_bounds-apply_delta-count-5 c).After-table_span-t) in search rules

pub slice_bounds-apply_delta-start-5 : goal.slice_bounds-apply_delta-start-5
slice_bounds-apply_delta-start-5 c = let b = table_piece (tabled (goal.at.slice_bounds-apply_delta-start-5 c).After-table_span-t) in search rules

pub slice_bounds-apply_delta-end-5 : goal.slice_bounds-apply_delta-end-5
slice_bounds-apply_delta-end-5 c = let b = table_piece (tabled (goal.at.slice_bounds-apply_delta-end-5 c).After-table_span-t) in search rules

pub apply_delta-answer-requires : goal.apply_delta-answer-requires
apply_delta-answer-requires c = rw (c.dims-d.ensures, c.item_in-item.ensures, to_z-of_z c.ranges.count) (ready (spanned (goal.at.apply_delta-answer-requires c).After-span_of-s) (tabled (goal.at.apply_delta-answer-requires c).After-table_span-t) c.requires.arrives_in)

pub tell_at-requires : goal.tell_at-requires
tell_at-requires c = c.requires.l_in_bounds

pub len_after-requires : goal.len_after-requires
len_after-requires c = let p = c.requires.arrives_in.placed.placed in omega (arith, p.standing.lens c.args.l p.inside, p.standing.accepted.small)

pub touched-requires : goal.touched-requires
touched-requires c = let p = c.requires.arrives_in.placed.placed in omega (arith, p.inside, p.standing.accepted.few)

pub returns : goal.returns
returns c =
    let q = spanned (goal.at.returns c).After-span_of-s in
    let v = tabled (goal.at.returns c).After-table_span-t in
    let r = c.apply_delta-answer.result in record {
      counts_value = rw (header-now (goal.at.returns c).After-touched) (view-one q v (delta-of (goal.at.returns c).Start) r (answer-now (goal.at.returns c).After-apply_delta-answer) _ _ _ _ (back (goal.at.returns c).After-counts-1) (layer-now (goal.at.returns c).After-apply_delta-answer));
      standing = rw (header-now (goal.at.returns c).After-touched) (standing-one q v (delta-of (goal.at.returns c).Start) r (answer-now (goal.at.returns c).After-apply_delta-answer) _ _ _ _ (back (goal.at.returns c).After-counts-1));
      index_after = index-one q v (delta-of (goal.at.returns c).Start) _ (table-now (goal.at.returns c).After-apply_delta-answer);
      list_after = told-one q v (delta-of (goal.at.returns c).Start) r (answer-now (goal.at.returns c).After-apply_delta-answer) _ _ c.tell_at.ensures;
    }
