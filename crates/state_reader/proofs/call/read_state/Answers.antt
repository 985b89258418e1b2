-- `state_reader::call::read_state` meets its contract.
use Prim.Native.Nat.{ℕ}
use mathlib.Core.Path.{◌≡◌, refl, sym, ap, ◌∙◌}
use mathlib.Core.Bool.{true}
use mathlib.Core.List.{List, []}
use lib.ListN.{length, drop, drop_of_length-le}
use Rattle.header.specs.Shape.{shape_refusal}
use Rattle.header.specs.Header.{zero_header, fresh_header}
use Rattle.header.proofs.Refusals.{accepted_of}
use Rattle.layout.specs.State.{over_layers}
use Rattle.layout.specs.Slices.{Lent, lent, lengths_ok, view}
use Rattle.layout.specs.inner.Needs.{Standing}
use Rattle.state_forms.specs.Formats.{got}
use Rattle.state_forms.specs.Grammar.{Page, pages_r, first_format, head_format}
use Rattle.state_forms.specs.Whole.{First}
use Rattle.state_lines.specs.inner.Places.{spot, forget, first_spot, head_spot}
use Rattle.state_text.specs.Pages.{frame_of, shape_from, dims_of}
use Rattle.layout.specs.Outcomes.{left}
use Rattle.std.proofs.lemmas.Result.{err_from_is_err_and}
use Rattle.refusal.specs.Refusals.{number_of}
use Rattle.refusal.proofs.Numbers.{number-ne0}
use Rattle.state_lines.proofs.Known.{known}
use Rattle.state_reader.proofs.Callings.{some_of, none_of, rest-head, rest_bad, rest_more, rest_got, some_left, call_first, call_shape, call_lengths, call_rest, call_done, head-by, begins, lends_are}
use Rattle.state_text.proofs.Built.{each}
use Rattle.state_reader.proofs.call.read_state.Goals as goal
use Rattle.state_reader.proofs.call.read_state.Goals.{After-judge_layers, After-keep_layers, After-lengths_match, After-one_tier-shape, After-with_mode-h, Else-end-text, Else-not-lengths_match, In_ok-check, In_ok-first, In_ok-head, Start}

-- the slices that were lent
abbrev lent_of : Start → Lent
lent_of c = lent zero_header c.args.counters.now c.args.norms.now c.args.entries.now c.args.counts.now

abbrev first-of : (c : In_ok-first) → First
first-of c = (c.in_ok-first.first.heap, (c.in_ok-first.first.rows, (c.in_ok-first.first.cols, c.in_ok-first.first.layers)))

abbrev left-of : (c : In_ok-first) → List ℕ
left-of c = drop c.in_ok-first.p c.args.text.now

first_is : (c : In_ok-first) → first_format.read c.args.text.now ≡ got (first-of c) (left-of c)
first_is c = sym c.first_at.ensures ∙ ap (first_spot c.args.text.now) (some_of _ _ _ c.in_ok-first.ensures.value)

-- the shape that it says
shape_is : (c : After-one_tier-shape) → c.one_tier-shape.result ≡ shape_from (first-of (goal.at.After-one_tier-shape c).In_ok-first)
shape_is c = c.one_tier-shape.ensures

good : (c : In_ok-check) → shape_refusal (shape_from (first-of (goal.at.In_ok-check c).In_ok-first)) ≡ 0
good c = ap shape_refusal (sym (shape_is (goal.at.In_ok-check c).After-one_tier-shape)) ∙ sym c.in_ok-check.ensures

lengths-are : (c : After-lengths_match) → c.lengths_match.result ≡ lengths_ok (shape_from (first-of (goal.at.After-lengths_match c).In_ok-first)) (length c.args.counters.now) (length c.args.norms.now) (length c.args.entries.now) (length c.args.counts.now)
lengths-are c = rw (shape_is (goal.at.After-lengths_match c).After-one_tier-shape) at c.lengths_match.ensures

long : (c : Else-not-lengths_match) → lengths_ok (shape_from (first-of (goal.at.Else-not-lengths_match c).In_ok-first)) (length c.args.counters.now) (length c.args.norms.now) (length c.args.entries.now) (length c.args.counts.now) ≡ true
long c = sym (lengths-are (goal.at.Else-not-lengths_match c).After-lengths_match) ∙ c.if-not-lengths_match.false

abbrev head-of : (c : In_ok-head) → ℕ × (ℕ × ℕ)
head-of c = (c.in_ok-head.head.weight, (c.in_ok-head.head.updates, c.in_ok-head.head.mode))

abbrev rest_of : (c : In_ok-head) → List ℕ
rest_of c = drop c.in_ok-head.q c.args.text.now

head-is : (c : In_ok-head) → head_format.read (left-of (goal.at.In_ok-head c).In_ok-first) ≡ got (head-of c) (rest_of c)
head-is c = sym c.head_at.ensures ∙ ap (head_spot c.args.text.now) (some_of _ _ _ c.in_ok-head.ensures.value)

judged : (c : After-judge_layers) → spot c.args.text.now c.judge_layers.result ≡ forget (pages_r (frame_of (dims_of (shape_from (first-of (goal.at.After-judge_layers c).In_ok-first)))) 0 (first-of (goal.at.After-judge_layers c).In_ok-first).1.1.1 (rest_of (goal.at.After-judge_layers c).In_ok-head))
judged c = rw (shape_is (goal.at.After-judge_layers c).After-one_tier-shape) at c.judge_layers.ensures

-- the layers' lines, which end with the text
pages : (c : Else-end-text) → (ps : List Page) × (pages_r (frame_of (dims_of (shape_from (first-of (goal.at.Else-end-text c).In_ok-first)))) 0 (first-of (goal.at.Else-end-text c).In_ok-first).1.1.1 (rest_of (goal.at.Else-end-text c).In_ok-head) ≡ got ps [])
pages c =
    let k = known (pages_r (frame_of (dims_of (shape_from (first-of (goal.at.Else-end-text c).In_ok-first)))) 0 (first-of (goal.at.Else-end-text c).In_ok-first).1.1.1 (rest_of (goal.at.Else-end-text c).In_ok-head)) (drop c.in_ok-end.end c.args.text.now) (sym (ap (spot c.args.text.now) (some_of _ _ _ c.in_ok-end.ensures.value)) ∙ judged (goal.at.Else-end-text c).After-judge_layers) in
    (k.0, k.1 ∙ ap (got k.0) (drop_of_length-le c.args.text.now {i = c.in_ok-end.end} c.if-end-text.false))

-- the header with totals and mode
header-set : (c : After-with_mode-h) → c.with_mode-h.result ≡ (head-by (shape_from (first-of (goal.at.After-with_mode-h c).In_ok-first)) (good (goal.at.After-with_mode-h c).In_ok-check) (head-of (goal.at.After-with_mode-h c).In_ok-head))
header-set c = rw (c.mode_of-m.ensures, c.with_totals.ensures, c.fresh.ensures, shape_is (goal.at.After-with_mode-h c).After-one_tier-shape) at c.with_mode-h.ensures

stands : (c : Else-end-text) → Standing (lent (head-by (shape_from (first-of (goal.at.Else-end-text c).In_ok-first)) (good (goal.at.Else-end-text c).In_ok-check) (head-of (goal.at.Else-end-text c).In_ok-head)) c.args.counters.now c.args.norms.now c.args.entries.now c.args.counts.now)
stands c = begins (shape_from (first-of (goal.at.Else-end-text c).In_ok-first)) (good (goal.at.Else-end-text c).In_ok-check) (head-of (goal.at.Else-end-text c).In_ok-head) c.args.counters.now c.args.norms.now c.args.entries.now c.args.counts.now (long (goal.at.Else-end-text c).Else-not-lengths_match)

-- the state as it was left
view-now : (c : After-keep_layers) → view (lent c.keep_layers.result c.keep_layers.new.counters c.keep_layers.new.norms c.keep_layers.new.entries c.keep_layers.new.counts) ≡ over_layers (each (shape_from (first-of (goal.at.After-keep_layers c).In_ok-first)) (pages (goal.at.After-keep_layers c).Else-end-text).0) (shape_from (first-of (goal.at.After-keep_layers c).In_ok-first)).layers 0 (view (lent (head-by (shape_from (first-of (goal.at.After-keep_layers c).In_ok-first)) (good (goal.at.After-keep_layers c).In_ok-check) (head-of (goal.at.After-keep_layers c).In_ok-head)) c.args.counters.now c.args.norms.now c.args.entries.now c.args.counts.now))
unfolding fresh_header
view-now c = (rw (header-set (goal.at.After-keep_layers c).After-with_mode-h) at c.keep_layers.ensures.counts_value) (pages (goal.at.After-keep_layers c).Else-end-text).0 [] (pages (goal.at.After-keep_layers c).Else-end-text).1

pub returns-in_err-first : goal.returns-in_err-first
returns-in_err-first c =
    let p = err_from_is_err_and c.from_residual.result c.from_residual.ensures.1 in
    let n = none_of _ _ _ c.in_err-first.ensures.value in
    rw (p.1, p.2, n.1) (call_first c.args.text.now (lent_of (goal.at.returns-in_err-first c).Start) (sym c.first_at.ensures ∙ ap (first_spot c.args.text.now) n.0))

pub returns-in_err-check : goal.returns-in_err-check
returns-in_err-check c =
    let p = err_from_is_err_and c.from_residual-in_err-check.result c.from_residual-in_err-check.ensures.1 in
    let e = c.in_err-check.field-0.0 in
    rw (p.1, p.2) (call_shape c.args.text.now (lent_of (goal.at.returns-in_err-check c).Start) (first-of (goal.at.returns-in_err-check c).In_ok-first) (left-of (goal.at.returns-in_err-check c).In_ok-first) (first_is (goal.at.returns-in_err-check c).In_ok-first) (number_of e) (c.in_err-check.ensures ∙ ap shape_refusal (shape_is (goal.at.returns-in_err-check c).After-one_tier-shape)) (number-ne0 e))

pub lengths_match-requires : goal.lengths_match-requires
lengths_match-requires c = rw (shape_is (goal.at.lengths_match-requires c).After-one_tier-shape) (accepted_of (shape_from (first-of (goal.at.lengths_match-requires c).In_ok-first)) (good (goal.at.lengths_match-requires c).In_ok-check))

pub returns-then-not-lengths_match : goal.returns-then-not-lengths_match
returns-then-not-lengths_match c = call_lengths c.args.text.now (lent_of (goal.at.returns-then-not-lengths_match c).Start) (first-of (goal.at.returns-then-not-lengths_match c).In_ok-first) (left-of (goal.at.returns-then-not-lengths_match c).In_ok-first) (first_is (goal.at.returns-then-not-lengths_match c).In_ok-first) (good (goal.at.returns-then-not-lengths_match c).In_ok-check) (sym (lengths-are (goal.at.returns-then-not-lengths_match c).After-lengths_match) ∙ c.if-not-lengths_match.true)

pub returns-in_err-head : goal.returns-in_err-head
returns-in_err-head c =
    let p = err_from_is_err_and c.from_residual-in_err-head.result c.from_residual-in_err-head.ensures.1 in
    let n = none_of _ _ _ c.in_err-head.ensures.value in
    rw (p.1, p.2, n.1) (call_rest c.args.text.now (lent_of (goal.at.returns-in_err-head c).Start) (first-of (goal.at.returns-in_err-head c).In_ok-first) (left-of (goal.at.returns-in_err-head c).In_ok-first) (first_is (goal.at.returns-in_err-head c).In_ok-first) (good (goal.at.returns-in_err-head c).In_ok-check) (long (goal.at.returns-in_err-head c).Else-not-lengths_match) (rest-head (frame_of (dims_of (shape_from (first-of (goal.at.returns-in_err-head c).In_ok-first)))) (first-of (goal.at.returns-in_err-head c).In_ok-first).1.1.1 (left-of (goal.at.returns-in_err-head c).In_ok-first) (sym c.head_at.ensures ∙ ap (head_spot c.args.text.now) n.0)))

pub judge_layers-requires : goal.judge_layers-requires
judge_layers-requires c = rw (shape_is (goal.at.judge_layers-requires c).After-one_tier-shape) (accepted_of (shape_from (first-of (goal.at.judge_layers-requires c).In_ok-first)) (good (goal.at.judge_layers-requires c).In_ok-check))

pub returns-in_err-end : goal.returns-in_err-end
returns-in_err-end c =
    let p = err_from_is_err_and c.from_residual-in_err-end.result c.from_residual-in_err-end.ensures.1 in
    let n = none_of _ _ _ c.in_err-end.ensures.value in
    rw (p.1, p.2, n.1) (call_rest c.args.text.now (lent_of (goal.at.returns-in_err-end c).Start) (first-of (goal.at.returns-in_err-end c).In_ok-first) (left-of (goal.at.returns-in_err-end c).In_ok-first) (first_is (goal.at.returns-in_err-end c).In_ok-first) (good (goal.at.returns-in_err-end c).In_ok-check) (long (goal.at.returns-in_err-end c).Else-not-lengths_match) (rest_bad (frame_of (dims_of (shape_from (first-of (goal.at.returns-in_err-end c).In_ok-first)))) (first-of (goal.at.returns-in_err-end c).In_ok-first).1.1.1 (left-of (goal.at.returns-in_err-end c).In_ok-first) (head-of (goal.at.returns-in_err-end c).In_ok-head) (rest_of (goal.at.returns-in_err-end c).In_ok-head) (head-is (goal.at.returns-in_err-end c).In_ok-head) (sym (ap (spot c.args.text.now) n.0) ∙ judged (goal.at.returns-in_err-end c).After-judge_layers)))

pub returns-then-end-text : goal.returns-then-end-text
returns-then-end-text c = call_rest c.args.text.now (lent_of (goal.at.returns-then-end-text c).Start) (first-of (goal.at.returns-then-end-text c).In_ok-first) (left-of (goal.at.returns-then-end-text c).In_ok-first) (first_is (goal.at.returns-then-end-text c).In_ok-first) (good (goal.at.returns-then-end-text c).In_ok-check) (long (goal.at.returns-then-end-text c).Else-not-lengths_match) (rest_more (frame_of (dims_of (shape_from (first-of (goal.at.returns-then-end-text c).In_ok-first)))) (first-of (goal.at.returns-then-end-text c).In_ok-first).1.1.1 (left-of (goal.at.returns-then-end-text c).In_ok-first) (head-of (goal.at.returns-then-end-text c).In_ok-head) (rest_of (goal.at.returns-then-end-text c).In_ok-head) (head-is (goal.at.returns-then-end-text c).In_ok-head) (drop c.in_ok-end.end c.args.text.now) (some_left c.args.text.now c.in_ok-end.end c.if-end-text.true) (sym (ap (spot c.args.text.now) (some_of _ _ _ c.in_ok-end.ensures.value)) ∙ judged (goal.at.returns-then-end-text c).After-judge_layers))

pub fresh-requires : goal.fresh-requires
fresh-requires c = rw (shape_is (goal.at.fresh-requires c).After-one_tier-shape) (accepted_of (shape_from (first-of (goal.at.fresh-requires c).In_ok-first)) (good (goal.at.fresh-requires c).In_ok-check)).few

pub keep_layers-requires : goal.keep_layers-requires
unfolding fresh_header
keep_layers-requires c = rw (header-set (goal.at.keep_layers-requires c).After-with_mode-h) (record {
  one_tiered = refl;
  standing = stands (goal.at.keep_layers-requires c).Else-end-text;
  legible = record { value = (pages (goal.at.keep_layers-requires c).Else-end-text).0; left = []; reads = (pages (goal.at.keep_layers-requires c).Else-end-text).1 };
})

pub returns : goal.returns
returns c =
    ap (left 0)
    (lends_are (shape_from (first-of (goal.at.returns c).In_ok-first)) refl (good (goal.at.returns c).In_ok-check) (head-of (goal.at.returns c).In_ok-head) (pages (goal.at.returns c).Else-end-text).0 (rest_of (goal.at.returns c).In_ok-head) (pages (goal.at.returns c).Else-end-text).1 c.args.counters.now c.args.norms.now c.args.entries.now c.args.counts.now (lent c.keep_layers.result c.keep_layers.new.counters c.keep_layers.new.norms c.keep_layers.new.entries c.keep_layers.new.counts) (stands (goal.at.returns c).Else-end-text) (view-now (goal.at.returns c).After-keep_layers) c.keep_layers.ensures.standing_2 (λ k. (c.slice_known-3-1.given k).fits))
    ∙ call_done c.args.text.now (lent_of (goal.at.returns c).Start) (first-of (goal.at.returns c).In_ok-first) (left-of (goal.at.returns c).In_ok-first) (first_is (goal.at.returns c).In_ok-first) (good (goal.at.returns c).In_ok-check) (long (goal.at.returns c).Else-not-lengths_match) (head-of (goal.at.returns c).In_ok-head, (pages (goal.at.returns c).Else-end-text).0) (rest_got (frame_of (dims_of (shape_from (first-of (goal.at.returns c).In_ok-first)))) (first-of (goal.at.returns c).In_ok-first).1.1.1 (left-of (goal.at.returns c).In_ok-first) (head-of (goal.at.returns c).In_ok-head) (rest_of (goal.at.returns c).In_ok-head) (head-is (goal.at.returns c).In_ok-head) (pages (goal.at.returns c).Else-end-text).0 (pages (goal.at.returns c).Else-end-text).1)
