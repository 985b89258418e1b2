-- `univmon_delta_indexed::check_delta` meets its contract.
use Prim.Native.Nat.{ℕ, ◌*◌}
use mathlib.Core.Path.{◌≡◌, refl, sym, ap, ◌∙◌}
use mathlib.Core.Bool.{Bool, not}
use mathlib.Core.List.{List, ◌∷◌, ◌++◌}
use lib.ListN.{length}
use native.Mathlib.Omega.{arith}
use borrow.Author.Tests.{eq-eqb, ne_eqb, le-leb, lt-leb, not-false, eqb-true}
use mir.Facts.{to_z-of_z}
use Rattle.words.specs.Tests.{number}
use Rattle.words.proofs.Tests.{Off, off_number}
use Rattle.layout.specs.State.{dims_at, layer_at}
use Rattle.layout.specs.Slices.{Lent, lent, view}
use Rattle.layout.specs.Outcomes.{record_test}
use Rattle.layout.specs.inner.Needs.{Standing}
use Rattle.layout.specs.inner.Telling.{list_tests}
use Rattle.layout.proofs.Lengths.{standing_of}
use Rattle.layout.proofs.ListCalls.{list-before}
use Rattle.layout_index.specs.Tables.{table_at, indexed_tests}
use Rattle.univmon_delta.specs.declared.Fidelity.{Fidelity}
use Rattle.univmon_delta.specs.Deltas.{Arrival, arrival, every_insert, delta_by, counter_tests}
use Rattle.univmon_delta_indexed.specs.Deltas.{delta_tests_in, indexed_delta_tests}
use Rattle.univmon_delta_indexed.proofs.Refusing.{unfit_number, behind-number, layer-number, short-number, long-number}
use Rattle.std.proofs.lemmas.Result.{err_from_is_err_and}
use Rattle.refusal.specs.Refusals.{number_of, refused}
use Rattle.refusal.proofs.Numbers.{number-ne0}
use Rattle.univmon_delta_indexed.proofs.check_delta.Goals as goal
use Rattle.univmon_delta_indexed.proofs.check_delta.Goals.{After-check_layer, Else-d-col, In_ok-check_indexed, Start}

-- the state that is lent
abbrev lent_of : Start → Lent
lent_of c = lent c.args.h c.args.counters.now c.args.norms.now c.args.entries.now c.args.counts.now

-- the delta, of either fidelity, and the tests before the list's
abbrev delta-of : Start → Fidelity → Arrival
delta-of c f = arrival c.args.l c.args.row c.args.col c.args.count f

abbrev tests-of : Start → Fidelity → List (Bool × ℕ)
tests-of c f = indexed_delta_tests (lent_of c) c.args.index.now c.args.«record».now (delta-of c f)

-- a refusal by one of them
first : (c : Start) (f : Fidelity) (m : ℕ) → m ≡ number (tests-of c f) → (m ≡ 0 → ⊥) → m ≡ number (tests-of c f ++ list_tests (2 * c.args.h.shape.layers) c.args.list)
first c f m e h = list-before (tests-of c f) (2 * c.args.h.shape.layers) c.args.list m e h

-- header and lengths, the index's too, were found right
passed : (c : In_ok-check_indexed) → number (indexed_tests (lent_of (goal.at.In_ok-check_indexed c).Start) c.args.index.now) ≡ 0
passed c = sym c.in_ok-check_indexed.ensures

fitting : (c : In_ok-check_indexed) → Off (indexed_tests (lent_of (goal.at.In_ok-check_indexed c).Start) c.args.index.now)
fitting c = off_number (indexed_tests (lent_of (goal.at.In_ok-check_indexed c).Start) c.args.index.now) refl (passed c)

standing : (c : In_ok-check_indexed) → Standing (lent_of (goal.at.In_ok-check_indexed c).Start)
standing c = standing_of (lent_of (goal.at.In_ok-check_indexed c).Start) (not-false _ (fitting c).0) (not-false _ (fitting c).1.0)

-- a refusal by a test behind them
later : (c : In_ok-check_indexed) (f : Fidelity) (m : ℕ)
    → m ≡ number (record_test c.args.h.shape (length c.args.«record».now) ∷ (counter_tests c.args.h.shape (delta-of (goal.at.In_ok-check_indexed c).Start f) ++ delta_tests_in (dims_at c.args.h.shape c.args.l) (delta_by (delta-of (goal.at.In_ok-check_indexed c).Start f) c.args.«record».now) (table_at c.args.h.shape c.args.index.now c.args.l) (layer_at (view (lent_of (goal.at.In_ok-check_indexed c).Start)) c.args.l)))
    → (m ≡ 0 → ⊥) → m ≡ number (tests-of (goal.at.In_ok-check_indexed c).Start f ++ list_tests (2 * c.args.h.shape.layers) c.args.list)
later c f m e h = first (goal.at.In_ok-check_indexed c).Start f m (behind-number (lent_of (goal.at.In_ok-check_indexed c).Start) c.args.index.now c.args.«record».now (delta-of (goal.at.In_ok-check_indexed c).Start f) (passed c) m e) h

-- record and counter were found right
named : (c : Else-d-col) (f : Fidelity) → Off (record_test c.args.h.shape (length c.args.«record».now) ∷ counter_tests c.args.h.shape (delta-of (goal.at.Else-d-col c).Start f))
named c f = (
  ap not (eq-eqb _ _ c.if-record-shape.false),
  (lt-leb _ _ c.if-shape-l.false, (lt-leb _ _ (rw c.dims-d.ensures at c.if-d-row.false), (lt-leb _ _ (rw c.dims-d.ensures at c.if-d-col.false), tt))),
)

-- the number before the list's
judged : (c : After-check_layer) (f : Fidelity) → refused c.check_layer.result ≡ number (tests-of (goal.at.After-check_layer c).Start f)
judged c f =
    let a = c.args in
    layer-number (lent_of (goal.at.After-check_layer c).Start) a.index.now a.«record».now (delta-of (goal.at.After-check_layer c).Start f) (passed (goal.at.After-check_layer c).In_ok-check_indexed) (named (goal.at.After-check_layer c).Else-d-col f) (refused c.check_layer.result)
    (rw (to_z-of_z c.ranges.count) at (c.check_layer.ensures.value (every_insert f)))

pub returns-in_err-check_indexed : goal.returns-in_err-check_indexed
returns-in_err-check_indexed c =
    let p = err_from_is_err_and c.from_residual.result c.from_residual.ensures.1 in
    rw (p.1, p.2) (let a = c.args in
    let i = number_of c.in_err-check_indexed.field-0.0 in record {
      value = λ f. first (goal.at.returns-in_err-check_indexed c).Start f i (unfit_number (lent_of (goal.at.returns-in_err-check_indexed c).Start) a.index.now a.«record».now (delta-of (goal.at.returns-in_err-check_indexed c).Start f) i c.in_err-check_indexed.ensures (number-ne0 c.in_err-check_indexed.field-0.0)) (number-ne0 c.in_err-check_indexed.field-0.0);
      counters_unchanged = (refl, (refl, (refl, refl)));
    })

pub overflow_mul-shape : goal.overflow_mul-shape
overflow_mul-shape c = record { fits = omega (arith, (standing (goal.at.overflow_mul-shape c).In_ok-check_indexed).accepted.few) }

pub overflow_add-shape : goal.overflow_add-shape
overflow_add-shape c = record { fits = omega (arith, (standing (goal.at.overflow_add-shape c).In_ok-check_indexed).accepted.few) }

pub returns-then-record-shape : goal.returns-then-record-shape
returns-then-record-shape c = record {
  value = λ f. later (goal.at.returns-then-record-shape c).In_ok-check_indexed f 12 (simp (ne_eqb _ _ c.if-record-shape.true)) (λ z. omega (arith, z));
  counters_unchanged = (refl, (refl, (refl, refl)));
}

pub returns-then-shape-l : goal.returns-then-shape-l
returns-then-shape-l c = record {
  value = λ f. later (goal.at.returns-then-shape-l c).In_ok-check_indexed f 8 (simp (eq-eqb _ _ c.if-record-shape.false, le-leb _ _ c.if-shape-l.true)) (λ z. omega (arith, z));
  counters_unchanged = (refl, (refl, (refl, refl)));
}

pub returns-then-d-row : goal.returns-then-d-row
returns-then-d-row c = record {
  value = λ f. later (goal.at.returns-then-d-row c).In_ok-check_indexed f 8 (simp (eq-eqb _ _ c.if-record-shape.false, lt-leb _ _ c.if-shape-l.false, le-leb _ _ (rw c.dims-d.ensures at c.if-d-row.true))) (λ z. omega (arith, z));
  counters_unchanged = (refl, (refl, (refl, refl)));
}

pub returns-then-d-col : goal.returns-then-d-col
returns-then-d-col c = record {
  value = λ f. later (goal.at.returns-then-d-col c).In_ok-check_indexed f 8 (simp (eq-eqb _ _ c.if-record-shape.false, lt-leb _ _ c.if-shape-l.false, lt-leb _ _ (rw c.dims-d.ensures at c.if-d-row.false), le-leb _ _ (rw c.dims-d.ensures at c.if-d-col.true))) (λ z. omega (arith, z));
  counters_unchanged = (refl, (refl, (refl, refl)));
}

pub check_layer-requires : goal.check_layer-requires
check_layer-requires c =
    record {
      placed = record { standing = standing (goal.at.check_layer-requires c).In_ok-check_indexed; recorded = c.if-record-shape.false; inside = c.if-shape-l.false; below = rw c.dims-d.ensures at c.if-d-row.false; within = rw c.dims-d.ensures at c.if-d-col.false };
      tables = eqb-true _ _ (not-false _ (fitting (goal.at.check_layer-requires c).In_ok-check_indexed).1.1.0);
    }

pub returns-in_err-check_layer : goal.returns-in_err-check_layer
returns-in_err-check_layer c =
    let p = err_from_is_err_and c.from_residual-in_err-check_layer.result c.from_residual-in_err-check_layer.ensures.1 in
    rw (p.1, p.2) (record {
      value = λ f. first (goal.at.returns-in_err-check_layer c).Start f (number_of c.in_err-check_layer.field-0.0) (rw c.in_err-check_layer.was at (judged (goal.at.returns-in_err-check_layer c).After-check_layer f)) (number-ne0 c.in_err-check_layer.field-0.0);
      counters_unchanged = c.in_err-check_layer.ensures.counters_unchanged;
    })

pub overflow_mul-shape-2 : goal.overflow_mul-shape-2
overflow_mul-shape-2 c = record { fits = omega (arith, (standing (goal.at.overflow_mul-shape-2 c).In_ok-check_indexed).accepted.few) }

pub returns-then-list-shape : goal.returns-then-list-shape
returns-then-list-shape c =
    let a = c.args in record {
      value = λ f. short-number (lent_of (goal.at.returns-then-list-shape c).Start) a.index.now a.«record».now (delta-of (goal.at.returns-then-list-shape c).Start f) a.list (sym (judged (goal.at.returns-then-list-shape c).After-check_layer f) ∙ ap refused c.in_ok-check_layer.was) c.if-list-shape.true;
      counters_unchanged = c.check_layer.ensures.counters_unchanged;
    }

pub returns : goal.returns
returns c =
    let a = c.args in record {
      value = λ f. long-number (lent_of (goal.at.returns c).Start) a.index.now a.«record».now (delta-of (goal.at.returns c).Start f) a.list (sym (judged (goal.at.returns c).After-check_layer f) ∙ ap refused c.in_ok-check_layer.was) c.if-list-shape.false;
      counters_unchanged = c.check_layer.ensures.counters_unchanged;
    }
