-- `univmon_delta::check_delta` meets its contract.
use Prim.Native.Nat.{ℕ, ◌*◌}
use mathlib.Core.Path.{◌≡◌, refl, sym, ap, ◌∙◌}
use mathlib.Core.List.{◌++◌}
use native.Mathlib.Omega.{arith}
use borrow.Author.Tests.{eq-eqb, ne_eqb, le-leb, lt-leb, not-false}
use mir.Facts.{to_z-of_z}
use Rattle.layout.specs.Slices.{Lent}
use Rattle.layout.specs.Lending.{lent_read}
use Rattle.layout.specs.Outcomes.{lent_tests}
use Rattle.layout.proofs.Lengths.{standing_of}
use Rattle.layout.specs.inner.Needs.{Standing}
use Rattle.words.proofs.Tests.{Off, off_number}
use Rattle.univmon_delta.specs.Deltas.{Arrival, every_insert, delta_tests, arrival}
use Rattle.univmon_delta.specs.declared.Fidelity.{Fidelity}
use Rattle.layout.specs.inner.Telling.{list_tests}
use Rattle.words.specs.Tests.{number}
use Rattle.univmon_delta.proofs.Refusing.{unfit_number, first_number, short-number, long-number}
use Rattle.std.proofs.lemmas.Result.{err_from_is_err_and}
use Rattle.refusal.specs.Refusals.{number_of, refused}
use Rattle.refusal.proofs.Numbers.{number-ne0}
use Rattle.univmon_delta.proofs.check_delta.Goals as goal
use Rattle.univmon_delta.proofs.check_delta.Goals.{After-check_layer, In_ok-check_lent, Start}

-- the state that is lent
abbrev lent_of : Start → Lent
lent_of c = lent_read c.args.state

-- the delta, of either fidelity
abbrev delta-of : Start → Fidelity → Arrival
delta-of c f = arrival c.args.l c.args.row c.args.col c.args.count f

-- a refusal by a test before the list's
first : (c : Start) (f : Fidelity) (m : ℕ) → m ≡ number (delta_tests (lent_of c) c.args.«record».now (delta-of c f)) → (m ≡ 0 → ⊥)
    → m ≡ number (delta_tests (lent_of c) c.args.«record».now (delta-of c f) ++ list_tests (2 * c.args.state.header.now.shape.layers) c.args.list)
first c f m e h = first_number (lent_of c) c.args.«record».now (delta-of c f) c.args.list m e h

-- header and lengths were found right
passed : (c : In_ok-check_lent) → Off (lent_tests (lent_of (goal.at.In_ok-check_lent c).Start))
passed c = off_number (lent_tests (lent_of (goal.at.In_ok-check_lent c).Start)) refl (sym c.in_ok-check_lent.ensures)

standing : (c : In_ok-check_lent) → Standing (lent_of (goal.at.In_ok-check_lent c).Start)
standing c = standing_of (lent_of (goal.at.In_ok-check_lent c).Start) (not-false _ (passed c).0) (not-false _ (passed c).1.0)

-- the number before the list's
judged : (c : After-check_layer) (f : Fidelity) → refused c.check_layer.result ≡ number (delta_tests (lent_of (goal.at.After-check_layer c).Start) c.args.«record».now (delta-of (goal.at.After-check_layer c).Start f))
unfolding delta_tests
judged c f =
    rw (to_z-of_z c.ranges.count) at (c.check_layer.ensures (every_insert f))
    ∙ simp ((passed (goal.at.After-check_layer c).In_ok-check_lent).0, (passed (goal.at.After-check_layer c).In_ok-check_lent).1.0, eq-eqb _ _ c.if-record-shape.false, lt-leb _ _ c.if-shape-l.false, lt-leb _ _ (rw c.dims-d.ensures at c.if-d-row.false), lt-leb _ _ (rw c.dims-d.ensures at c.if-d-col.false))

pub returns-in_err-check_lent : goal.returns-in_err-check_lent
returns-in_err-check_lent c =
    let p = err_from_is_err_and c.from_residual.result c.from_residual.ensures.1 in
    rw (p.1, p.2) (λ f. first (goal.at.returns-in_err-check_lent c).Start f (number_of c.in_err-check_lent.field-0.0) (unfit_number (lent_of (goal.at.returns-in_err-check_lent c).Start) c.args.«record».now (delta-of (goal.at.returns-in_err-check_lent c).Start f) (number_of c.in_err-check_lent.field-0.0) c.in_err-check_lent.ensures (number-ne0 c.in_err-check_lent.field-0.0)) (number-ne0 c.in_err-check_lent.field-0.0))

pub overflow_mul-shape : goal.overflow_mul-shape
overflow_mul-shape c = record { fits = omega (arith, (standing (goal.at.overflow_mul-shape c).In_ok-check_lent).accepted.few) }

pub overflow_add-shape : goal.overflow_add-shape
overflow_add-shape c = record { fits = omega (arith, (standing (goal.at.overflow_add-shape c).In_ok-check_lent).accepted.few) }

pub returns-then-record-shape : goal.returns-then-record-shape
unfolding delta_tests
returns-then-record-shape c = λ f. first (goal.at.returns-then-record-shape c).Start f 12 (simp ((passed (goal.at.returns-then-record-shape c).In_ok-check_lent).0, (passed (goal.at.returns-then-record-shape c).In_ok-check_lent).1.0, ne_eqb _ _ c.if-record-shape.true)) (λ z. omega (arith, z))

pub returns-then-shape-l : goal.returns-then-shape-l
unfolding delta_tests
returns-then-shape-l c = λ f. first (goal.at.returns-then-shape-l c).Start f 8 (simp ((passed (goal.at.returns-then-shape-l c).In_ok-check_lent).0, (passed (goal.at.returns-then-shape-l c).In_ok-check_lent).1.0, eq-eqb _ _ c.if-record-shape.false, le-leb _ _ c.if-shape-l.true)) (λ z. omega (arith, z))

pub returns-then-d-row : goal.returns-then-d-row
unfolding delta_tests
returns-then-d-row c = λ f. first (goal.at.returns-then-d-row c).Start f 8 (simp ((passed (goal.at.returns-then-d-row c).In_ok-check_lent).0, (passed (goal.at.returns-then-d-row c).In_ok-check_lent).1.0, eq-eqb _ _ c.if-record-shape.false, lt-leb _ _ c.if-shape-l.false, le-leb _ _ (rw c.dims-d.ensures at c.if-d-row.true))) (λ z. omega (arith, z))

pub returns-then-d-col : goal.returns-then-d-col
unfolding delta_tests
returns-then-d-col c = λ f. first (goal.at.returns-then-d-col c).Start f 8 (simp ((passed (goal.at.returns-then-d-col c).In_ok-check_lent).0, (passed (goal.at.returns-then-d-col c).In_ok-check_lent).1.0, eq-eqb _ _ c.if-record-shape.false, lt-leb _ _ c.if-shape-l.false, lt-leb _ _ (rw c.dims-d.ensures at c.if-d-row.false), le-leb _ _ (rw c.dims-d.ensures at c.if-d-col.true))) (λ z. omega (arith, z))

pub check_layer-requires : goal.check_layer-requires
check_layer-requires c =
    record { standing = standing (goal.at.check_layer-requires c).In_ok-check_lent; recorded = c.if-record-shape.false; inside = c.if-shape-l.false; below = rw c.dims-d.ensures at c.if-d-row.false; within = rw c.dims-d.ensures at c.if-d-col.false }

pub returns-in_err-check_layer : goal.returns-in_err-check_layer
returns-in_err-check_layer c =
    let p = err_from_is_err_and c.from_residual-in_err-check_layer.result c.from_residual-in_err-check_layer.ensures.1 in
    let e = c.in_err-check_layer.field-0.0 in
    rw (p.1, p.2) (λ f. first (goal.at.returns-in_err-check_layer c).Start f (number_of e) (rw (c.in_err-check_layer.was) at (judged (goal.at.returns-in_err-check_layer c).After-check_layer f)) (number-ne0 e))

pub overflow_mul-shape-2 : goal.overflow_mul-shape-2
overflow_mul-shape-2 c = record { fits = omega (arith, (standing (goal.at.overflow_mul-shape-2 c).In_ok-check_lent).accepted.few) }

pub returns-then-list-shape : goal.returns-then-list-shape
returns-then-list-shape c =
    let unrefused : refused c.check_layer.result ≡ 0 = ap refused c.in_ok-check_layer.was in
    λ f. short-number (lent_of (goal.at.returns-then-list-shape c).Start) c.args.«record».now (delta-of (goal.at.returns-then-list-shape c).Start f) c.args.list (sym (judged (goal.at.returns-then-list-shape c).After-check_layer f) ∙ unrefused) c.if-list-shape.true

pub returns : goal.returns
returns c =
    let unrefused : refused c.check_layer.result ≡ 0 = ap refused c.in_ok-check_layer.was in
    λ f. long-number (lent_of (goal.at.returns c).Start) c.args.«record».now (delta-of (goal.at.returns c).Start f) c.args.list (sym (judged (goal.at.returns c).After-check_layer f) ∙ unrefused) c.if-list-shape.false
