-- `univmon_indexed::stages::check_sound` meets its contract.
use Prim.Native.Nat.{ℕ}
use mathlib.Core.Path.{refl, sym, ◌∙◌}
use mathlib.Core.Bool.{Bool}
use mathlib.Core.List.{List, [], ◌∷◌, ◌++◌}
use lib.ListN.{length}
use native.Mathlib.Omega.{arith}
use borrow.Author.Tests.{eq-eqb, ne_eqb, not-false}
use Rattle.header.specs.Header.{head_of}
use Rattle.header.proofs.Ranges.{ranged_of}
use Rattle.layout.specs.Outcomes.{size_tests, record_test}
use Rattle.layout_index.specs.Tables.{tables_test}
use Rattle.words.proofs.Tests.{Off, off_number, number_first, number-rest, off_rest}
use Rattle.header.specs.declared.Header.{Header}
use Rattle.header.specs.inner.Accepted.{Accepted}
use Rattle.univmon.specs.Calls.{place_tests}
use Rattle.std.proofs.lemmas.Result.{err_from_is_err_and}
use Rattle.refusal.proofs.Numbers.{number-ne0}
use Rattle.univmon_indexed.proofs.stages.check_sound.Goals as goal
use Rattle.univmon_indexed.proofs.stages.check_sound.Goals.{In_ok-check_sizes, Start}

-- the header of what is lent
abbrev head-of : Start → Header
head-of c = head_of c.args.scalars c.args.lens.now c.args.flags.now

-- the tests of header and lengths, and those of index and record
abbrev sizes : Start → List (Bool × ℕ)
sizes c = let a = c.args in size_tests (head-of c) (length a.counters.now) (length a.norms.now) (length a.entries.now) (length a.counts.now)

abbrev sized : Start → List (Bool × ℕ)
sized c = place_tests (head-of c) ++ sizes c

abbrev last : Start → List (Bool × ℕ)
last c = tables_test c.args.scalars.shape c.args.index ∷ record_test c.args.scalars.shape c.args.«record» ∷ []

-- no test of header and lengths holds
off : (c : In_ok-check_sizes) → Off (sized (goal.at.In_ok-check_sizes c).Start)
off c = off_number (sized (goal.at.In_ok-check_sizes c).Start) refl (sym c.in_ok-check_sizes.ensures)

-- so the shape is one that is accepted
accepted : (c : In_ok-check_sizes) → Accepted c.args.scalars.shape
accepted c = (ranged_of (head-of (goal.at.In_ok-check_sizes c).Start) (not-false _ (off_rest (place_tests (head-of (goal.at.In_ok-check_sizes c).Start)) (sizes (goal.at.In_ok-check_sizes c).Start) (off c)).0)).accepted

pub returns-in_err-check_sizes : goal.returns-in_err-check_sizes
returns-in_err-check_sizes c =
    let p = err_from_is_err_and c.from_residual.result c.from_residual.ensures.1 in
    rw (p.1, p.2) (let e = c.in_err-check_sizes.ensures in e ∙ sym (number_first (sized (goal.at.returns-in_err-check_sizes c).Start) (last (goal.at.returns-in_err-check_sizes c).Start) (λ z. (number-ne0 c.in_err-check_sizes.field-0.0) (e ∙ z))))

pub tables_in-requires : goal.tables_in-requires
tables_in-requires c = accepted (goal.at.tables_in-requires c).In_ok-check_sizes

pub returns-then-index-tables_in : goal.returns-then-index-tables_in
returns-then-index-tables_in c = sym (number-rest (sized (goal.at.returns-then-index-tables_in c).Start) (last (goal.at.returns-then-index-tables_in c).Start) (off (goal.at.returns-then-index-tables_in c).In_ok-check_sizes) ∙ rw (ne_eqb _ _ (λ z. c.if-index-tables_in.true (z ∙ sym c.tables_in.ensures))))

pub overflow_mul-shape : goal.overflow_mul-shape
overflow_mul-shape c = let q = accepted (goal.at.overflow_mul-shape c).In_ok-check_sizes in record { fits = omega (arith, q.few) }

pub overflow_add-shape : goal.overflow_add-shape
overflow_add-shape c = let q = accepted (goal.at.overflow_add-shape c).In_ok-check_sizes in record { fits = omega (arith, q.few) }

pub returns-then-record-shape : goal.returns-then-record-shape
returns-then-record-shape c = sym (number-rest (sized (goal.at.returns-then-record-shape c).Start) (last (goal.at.returns-then-record-shape c).Start) (off (goal.at.returns-then-record-shape c).In_ok-check_sizes) ∙ rw (eq-eqb _ _ (c.if-index-tables_in.false ∙ c.tables_in.ensures), ne_eqb _ _ c.if-record-shape.true))

pub returns : goal.returns
returns c = sym (number-rest (sized (goal.at.returns c).Start) (last (goal.at.returns c).Start) (off (goal.at.returns c).In_ok-check_sizes) ∙ rw (eq-eqb _ _ (c.if-index-tables_in.false ∙ c.tables_in.ensures), eq-eqb _ _ c.if-record-shape.false))
