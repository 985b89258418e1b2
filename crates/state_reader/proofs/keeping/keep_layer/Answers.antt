-- `state_reader::keeping::keep_layer` meets its contract.
use Prim.Native.Nat.{ℕ, ◌≤◌}
use mathlib.Core.Path.{◌≡◌, sym, ap, ◌∙◌}
use mathlib.Core.List.{List}
use lib.ListN.{length, drop}
use native.Mathlib.Omega.{arith}
use borrow.Author.Rules.{rules}
use Rattle.layer.specs.declared.Dims.{Dims}
use Rattle.layer.specs.inner.Needs.{layer_of}
use Rattle.layout.specs.State.{dims_at}
use Rattle.layout.specs.Slices.{Lent, lent}
use Rattle.layout.proofs.OneTier.{dims-alike}
use Rattle.layout.proofs.Handed.{Spanned, cell_piece, norm_piece, word_piece, seat_piece, housed, word-length, Back, back-view, back-standing}
use Rattle.state_forms.specs.Formats.{got}
use Rattle.state_forms.specs.Grammar.{Page, page_format}
use Rattle.state_text.specs.Pages.{frame_of, dims_of, layer_from}
use Rattle.state_lines.specs.inner.Places.{value_spot}
use Rattle.state_reader.specs.inner.Paged.{paged}
use Rattle.state_reader.proofs.PageSteps.{page_in, page_answer, page_never}
use Rattle.state_reader.proofs.Keepings.{none-used}
use Rattle.state_reader.proofs.keeping.keep_layer.Goals as goal
use Rattle.state_reader.proofs.keeping.keep_layer.Goals.{After-counts-1, After-dims-d, After-fill_page-x, After-span_of-span, In-Some, Start}

-- the state that is lent, and where its layer stands
abbrev lent_of : Start → Lent
lent_of c = lent c.args.h c.args.counters.now c.args.norms.now c.args.entries.now c.args.counts.now

spanned : (c : After-span_of-span) → Spanned (lent_of (goal.at.After-span_of-span c).Start) c.args.l c.span_of-span.result
spanned c = record { standing = c.requires.standing; inside = c.requires.l_lt_layers; is = c.span_of-span.ensures }

-- the layer's dimensions
dims-are : (c : After-dims-d) → c.dims-d.result ≡ dims_of c.args.h.shape
dims-are c = c.dims-d.ensures ∙ dims-alike c.args.h.shape c.requires.one_tiered c.args.l

answer : (c : After-fill_page-x) → value_spot c.args.s.now c.fill_page-x.result ≡ paged ((page_format (frame_of (dims_of c.args.h.shape)) c.args.l).read (drop c.args.at c.args.s.now))
answer c = rw (dims-are (goal.at.After-fill_page-x c).After-dims-d) at c.fill_page-x.ensures.result_value

-- what a lemma proves of the clauses together, under each one's name
by_clause : {A B : Type 0} → A × B → record { counts_value : A; standing_2 : B }
by_clause p = record { counts_value = p.0; standing_2 = p.1 }

-- what the answer says
said : (c : In-Some) → (p : Page) (t : List ℕ) → ((page_format (frame_of (dims_of c.args.h.shape)) c.args.l).read (drop c.args.at c.args.s.now)) ≡ got p t → (c.in-Some.flag ≡ p.flag) × ((c.in-Some.len ≡ length p.keys) × (drop c.in-Some.p c.args.s.now ≡ t))
said c p t e = page_answer ((page_format (frame_of (dims_of c.args.h.shape)) c.args.l).read (drop c.args.at c.args.s.now)) c.in-Some.flag c.in-Some.len (drop c.in-Some.p c.args.s.now) (sym (ap (value_spot c.args.s.now) c.in-Some.is) ∙ answer (goal.at.In-Some c).After-fill_page-x) p t e

-- the parts that came back
back : (c : After-counts-1) → Back (spanned (goal.at.After-counts-1 c).After-span_of-span) c.fill_page-x.new.cells c.fill_page-x.new.norms c.fill_page-x.new.entries c.fill_page-x.new.counts
back c = record { cells = c.counters-1.given.0; norms = c.norms-1.given.0; words = c.entries-1.given.0; seats = c.counts-1.given.0 }

-- the layer as it came back
layer-now : (c : In-Some) → (p : Page) (t : List ℕ) → ((page_format (frame_of (dims_of c.args.h.shape)) c.args.l).read (drop c.args.at c.args.s.now)) ≡ got p t → layer_of (dims_at c.args.h.shape c.args.l) c.fill_page-x.new.cells c.fill_page-x.new.norms c.fill_page-x.new.entries c.fill_page-x.new.counts c.in-Some.len c.in-Some.flag ≡ layer_from (dims_of c.args.h.shape) p
layer-now c p t e =
    let a = said c p t e in
    let d = dims-are (goal.at.In-Some c).After-dims-d in
    let g = c.fill_page-x.ensures.flag_after p t (ap (λ (z : Dims). (page_format (frame_of z) c.args.l).read (drop c.args.at c.args.s.now)) d ∙ e) in
    (λ i. layer_of ((sym c.dims-d.ensures) i) c.fill_page-x.new.cells c.fill_page-x.new.norms c.fill_page-x.new.entries c.fill_page-x.new.counts (a.1.0 i) (a.0 i)) ∙ g ∙ ap (λ (z : Dims). layer_from z p) d

few : (c : In-Some) → c.in-Some.len ≤ (dims_at c.args.h.shape c.args.l).size
few c =
    let p = c.requires.legible in
    let a = said c p.value p.left p.reads in
    let sh = c.requires.standing.accepted.mouse in
    let i = page_in (dims_of c.args.h.shape) c.args.l (drop c.args.at c.args.s.now) p.value p.left (omega (arith, c.ranges.l)) (omega (arith, sh.wide)) (omega (arith, sh.few)) p.reads in
    omega (arith, a.1.0, i.0.1.1.0)

pub span_of-span-requires : goal.span_of-span-requires
span_of-span-requires c = record {
  accepted = c.requires.standing.accepted;
  l_lt_layers = c.requires.l_lt_layers;
}

pub offset_bounds-counters-ca : goal.offset_bounds-counters-ca
offset_bounds-counters-ca c = let b = cell_piece (spanned (goal.at.offset_bounds-counters-ca c).After-span_of-span) in search rules

pub slice_bounds-fill_page-count : goal.slice_bounds-fill_page-count
slice_bounds-fill_page-count c = let b = cell_piece (spanned (goal.at.slice_bounds-fill_page-count c).After-span_of-span) in search rules

pub slice_bounds-fill_page-start : goal.slice_bounds-fill_page-start
slice_bounds-fill_page-start c = let b = cell_piece (spanned (goal.at.slice_bounds-fill_page-start c).After-span_of-span) in search rules

pub slice_bounds-fill_page-end : goal.slice_bounds-fill_page-end
slice_bounds-fill_page-end c = let b = cell_piece (spanned (goal.at.slice_bounds-fill_page-end c).After-span_of-span) in search rules

pub offset_bounds-norms-na : goal.offset_bounds-norms-na
offset_bounds-norms-na c = let b = norm_piece (spanned (goal.at.offset_bounds-norms-na c).After-span_of-span) in search rules

pub slice_bounds-fill_page-count-2 : goal.slice_bounds-fill_page-count-2
slice_bounds-fill_page-count-2 c = let b = norm_piece (spanned (goal.at.slice_bounds-fill_page-count-2 c).After-span_of-span) in search rules

pub slice_bounds-fill_page-start-2 : goal.slice_bounds-fill_page-start-2
slice_bounds-fill_page-start-2 c = let b = norm_piece (spanned (goal.at.slice_bounds-fill_page-start-2 c).After-span_of-span) in search rules

pub slice_bounds-fill_page-end-2 : goal.slice_bounds-fill_page-end-2
slice_bounds-fill_page-end-2 c = let b = norm_piece (spanned (goal.at.slice_bounds-fill_page-end-2 c).After-span_of-span) in search rules

pub offset_bounds-entries-ea : goal.offset_bounds-entries-ea
offset_bounds-entries-ea c = let b = word_piece (spanned (goal.at.offset_bounds-entries-ea c).After-span_of-span) in search rules

pub slice_bounds-fill_page-count-3 : goal.slice_bounds-fill_page-count-3
slice_bounds-fill_page-count-3 c = let b = word_piece (spanned (goal.at.slice_bounds-fill_page-count-3 c).After-span_of-span) in search rules

pub slice_bounds-fill_page-start-3 : goal.slice_bounds-fill_page-start-3
slice_bounds-fill_page-start-3 c = let b = word_piece (spanned (goal.at.slice_bounds-fill_page-start-3 c).After-span_of-span) in search rules

pub slice_bounds-fill_page-end-3 : goal.slice_bounds-fill_page-end-3
slice_bounds-fill_page-end-3 c = let b = word_piece (spanned (goal.at.slice_bounds-fill_page-end-3 c).After-span_of-span) in search rules

pub offset_bounds-counts-ta : goal.offset_bounds-counts-ta
offset_bounds-counts-ta c = let b = seat_piece (spanned (goal.at.offset_bounds-counts-ta c).After-span_of-span) in search rules

pub slice_bounds-fill_page-count-4 : goal.slice_bounds-fill_page-count-4
slice_bounds-fill_page-count-4 c = let b = seat_piece (spanned (goal.at.slice_bounds-fill_page-count-4 c).After-span_of-span) in search rules

pub slice_bounds-fill_page-start-4 : goal.slice_bounds-fill_page-start-4
slice_bounds-fill_page-start-4 c = let b = seat_piece (spanned (goal.at.slice_bounds-fill_page-start-4 c).After-span_of-span) in search rules

pub slice_bounds-fill_page-end-4 : goal.slice_bounds-fill_page-end-4
slice_bounds-fill_page-end-4 c = let b = seat_piece (spanned (goal.at.slice_bounds-fill_page-end-4 c).After-span_of-span) in search rules

pub fill_page-x-requires : goal.fill_page-x-requires
fill_page-x-requires c = rw c.dims-d.ensures (record {
  housed = none-used (housed (spanned (goal.at.fill_page-x-requires c).After-span_of-span));
  entries_len = word-length (spanned (goal.at.fill_page-x-requires c).After-span_of-span);
})

pub returns-in_default : goal.returns-in_default
returns-in_default c = by_clause (let p = c.requires.legible in absurd (page_never ((page_format (frame_of (dims_of c.args.h.shape)) c.args.l).read (drop c.args.at c.args.s.now)) (sym (ap (value_spot c.args.s.now) c.in_default.is) ∙ answer (goal.at.returns-in_default c).After-fill_page-x) p.value p.left p.reads))

pub with_layer-requires : goal.with_layer-requires
with_layer-requires c = omega (arith, c.requires.l_lt_layers, c.requires.standing.accepted.few)

pub returns : goal.returns
returns c = record {
  counts_value = λ p t e. (
    rw c.with_layer.ensures (back-view (spanned (goal.at.returns c).After-span_of-span) c.fill_page-x.new.cells c.fill_page-x.new.norms c.fill_page-x.new.entries c.fill_page-x.new.counts c.in-Some.len c.in-Some.flag _ (back (goal.at.returns c).After-counts-1) (layer-now (goal.at.returns c).In-Some p t e)),
    (said (goal.at.returns c).In-Some p t e).1.1,
  );
  standing_2 = rw c.with_layer.ensures (back-standing (spanned (goal.at.returns c).After-span_of-span) c.fill_page-x.new.cells c.fill_page-x.new.norms c.fill_page-x.new.entries c.fill_page-x.new.counts c.in-Some.len c.in-Some.flag (back (goal.at.returns c).After-counts-1) (few (goal.at.returns c).In-Some));
}
