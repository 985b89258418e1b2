-- `univmon_merge::judge::check_merge` meets its contract.
use Prim.Native.Nat.{◌*◌, ◌≤◌}
use mathlib.Core.Path.{◌≡◌, refl, sym, ap, ◌∙◌}
use native.Mathlib.Omega.{arith}
use Rattle.layout.specs.Slices.{Lent}
use Rattle.layout.specs.Lending.{lent_read}
use native.Mathlib.Nat.{mul-le-mul, le_refl}
use Rattle.words.specs.Tests.{number}
use Rattle.header.specs.Shape.{max_layers}
use Rattle.layout.specs.Outcomes.{lent_tests}
use Rattle.layout.proofs.ListCalls.{list-short, list_enough}
use Rattle.univmon_merge.specs.Merges.{heads_tests, merge_tests}
use Rattle.univmon_merge.specs.inner.Pairs.{Paired}
use Rattle.univmon_merge.proofs.MergeCalls.{own-refused, other-refused, heads_refused, pairs-number, paired_of, tests_refused}
use Rattle.std.proofs.lemmas.Result.{err_from_is_err_and}
use Rattle.refusal.specs.Refusals.{number_of, refused}
use Rattle.refusal.proofs.Numbers.{number-ne0}
use Rattle.univmon_merge.proofs.judge.check_merge.Goals as goal
use Rattle.univmon_merge.proofs.judge.check_merge.Goals.{After-check_layers, In_ok-check_heads, In_ok-check_lent-2, In_ok-check_lent, In_ok-check_layers, Start}

-- the two states that are lent
abbrev lent_of : Start → Lent
lent_of c = lent_read c.args.state

abbrev other-of : Start → Lent
other-of c = lent_read c.args.other

-- what the stages found: nothing
own : (c : In_ok-check_lent) → number (lent_tests (lent_of (goal.at.In_ok-check_lent c).Start)) ≡ 0
own c = sym c.in_ok-check_lent.ensures

second : (c : In_ok-check_lent-2) → number (lent_tests (other-of (goal.at.In_ok-check_lent-2 c).Start)) ≡ 0
second c = sym c.in_ok-check_lent-2.ensures

heads : (c : In_ok-check_heads) → number (heads_tests c.args.state.header.now c.args.other.header.now) ≡ 0
heads c = sym c.in_ok-check_heads.ensures

paired : (c : In_ok-check_heads) → Paired (lent_of (goal.at.In_ok-check_heads c).Start) (other-of (goal.at.In_ok-check_heads c).Start) c.args.state.header.now.shape.layers 0
paired c = paired_of (lent_of (goal.at.In_ok-check_heads c).Start) (other-of (goal.at.In_ok-check_heads c).Start) (own (goal.at.In_ok-check_heads c).In_ok-check_lent) (second (goal.at.In_ok-check_heads c).In_ok-check_lent-2) (heads c)

-- the number of all tests but the list's
judged : (c : After-check_layers) → refused c.check_layers.result ≡ number (merge_tests (lent_of (goal.at.After-check_layers c).Start) (other-of (goal.at.After-check_layers c).Start))
judged c = c.check_layers.ensures ∙ pairs-number (lent_of (goal.at.After-check_layers c).Start) (other-of (goal.at.After-check_layers c).Start) (own (goal.at.After-check_layers c).In_ok-check_lent) (second (goal.at.After-check_layers c).In_ok-check_lent-2) (heads (goal.at.After-check_layers c).In_ok-check_heads)

-- the places of all layers, in words
words : (c : In_ok-check_heads) → let sh = c.args.state.header.now.shape in 4 * sh.heap_size * sh.layers ≤ 4 * sh.heap_size * max_layers
words c = mul-le-mul (le_refl (4 * c.args.state.header.now.shape.heap_size)) (paired c).standing.accepted.few

none : (c : In_ok-check_layers) → number (merge_tests (lent_of (goal.at.In_ok-check_layers c).Start) (other-of (goal.at.In_ok-check_layers c).Start)) ≡ 0
none c = sym (judged (goal.at.In_ok-check_layers c).After-check_layers) ∙ ap refused c.in_ok-check_layers.was

pub returns-in_err-check_lent : goal.returns-in_err-check_lent
returns-in_err-check_lent c =
    let p = err_from_is_err_and c.from_residual.result c.from_residual.ensures.1 in
    rw (p.1, p.2) (tests_refused (lent_of (goal.at.returns-in_err-check_lent c).Start) (other-of (goal.at.returns-in_err-check_lent c).Start) c.args.list (number_of c.in_err-check_lent.field-0.0)
    (own-refused (lent_of (goal.at.returns-in_err-check_lent c).Start) (other-of (goal.at.returns-in_err-check_lent c).Start) (number_of c.in_err-check_lent.field-0.0) c.in_err-check_lent.ensures (number-ne0 c.in_err-check_lent.field-0.0)) (number-ne0 c.in_err-check_lent.field-0.0))

pub returns-in_err-check_lent-2 : goal.returns-in_err-check_lent-2
returns-in_err-check_lent-2 c =
    let p = err_from_is_err_and c.from_residual-in_err-check_lent-2.result c.from_residual-in_err-check_lent-2.ensures.1 in
    rw (p.1, p.2) (tests_refused (lent_of (goal.at.returns-in_err-check_lent-2 c).Start) (other-of (goal.at.returns-in_err-check_lent-2 c).Start) c.args.list (number_of c.in_err-check_lent-2.field-0.0)
    (other-refused (lent_of (goal.at.returns-in_err-check_lent-2 c).Start) (other-of (goal.at.returns-in_err-check_lent-2 c).Start) (own (goal.at.returns-in_err-check_lent-2 c).In_ok-check_lent) (number_of c.in_err-check_lent-2.field-0.0) c.in_err-check_lent-2.ensures (number-ne0 c.in_err-check_lent-2.field-0.0)) (number-ne0 c.in_err-check_lent-2.field-0.0))

pub returns-in_err-check_heads : goal.returns-in_err-check_heads
returns-in_err-check_heads c =
    let p = err_from_is_err_and c.from_residual-in_err-check_heads.result c.from_residual-in_err-check_heads.ensures.1 in
    rw (p.1, p.2) (tests_refused (lent_of (goal.at.returns-in_err-check_heads c).Start) (other-of (goal.at.returns-in_err-check_heads c).Start) c.args.list (number_of c.in_err-check_heads.field-0.0)
    (heads_refused (lent_of (goal.at.returns-in_err-check_heads c).Start) (other-of (goal.at.returns-in_err-check_heads c).Start) (own (goal.at.returns-in_err-check_heads c).In_ok-check_lent) (second (goal.at.returns-in_err-check_heads c).In_ok-check_lent-2) (number_of c.in_err-check_heads.field-0.0) c.in_err-check_heads.ensures (number-ne0 c.in_err-check_heads.field-0.0)) (number-ne0 c.in_err-check_heads.field-0.0))

pub check_layers-requires : goal.check_layers-requires
check_layers-requires c = paired (goal.at.check_layers-requires c).In_ok-check_heads

pub returns-in_err-check_layers : goal.returns-in_err-check_layers
returns-in_err-check_layers c =
    let p = err_from_is_err_and c.from_residual-in_err-check_layers.result c.from_residual-in_err-check_layers.ensures.1 in
    rw (p.1, p.2) (tests_refused (lent_of (goal.at.returns-in_err-check_layers c).Start) (other-of (goal.at.returns-in_err-check_layers c).Start) c.args.list (number_of c.in_err-check_layers.field-0.0) (rw c.in_err-check_layers.was at (judged (goal.at.returns-in_err-check_layers c).After-check_layers)) (number-ne0 c.in_err-check_layers.field-0.0))

pub overflow_mul-shape : goal.overflow_mul-shape
overflow_mul-shape c = record { fits = omega (arith, (paired (goal.at.overflow_mul-shape c).In_ok-check_heads).standing.accepted.small) }

pub overflow_mul-shape-2 : goal.overflow_mul-shape-2
overflow_mul-shape-2 c = record { fits = omega (arith, words (goal.at.overflow_mul-shape-2 c).In_ok-check_heads, (paired (goal.at.overflow_mul-shape-2 c).In_ok-check_heads).standing.accepted.small) }

pub returns-then-list-shape : goal.returns-then-list-shape
unfolding merge_tests
returns-then-list-shape c = list-short (merge_tests (lent_of (goal.at.returns-then-list-shape c).Start) (other-of (goal.at.returns-then-list-shape c).Start)) _ c.args.list refl (none (goal.at.returns-then-list-shape c).In_ok-check_layers) c.if-list-shape.true

pub returns : goal.returns
unfolding merge_tests
returns c = list_enough (merge_tests (lent_of (goal.at.returns c).Start) (other-of (goal.at.returns c).Start)) _ c.args.list refl (none (goal.at.returns c).In_ok-check_layers) c.if-list-shape.false
