-- `univmon::stages::check_sound` meets its contract.
use Prim.Native.Nat.{ℕ}
use mathlib.Core.Path.{refl, sym, ◌∙◌}
use mathlib.Core.Bool.{Bool}
use mathlib.Core.List.{List, [], ◌∷◌, ◌++◌}
use native.Mathlib.Omega.{arith}
use borrow.Author.Tests.{eq-eqb, ne_eqb, not-false}
use Rattle.header.specs.Header.{head_of}
use Rattle.header.specs.inner.Accepted.{Accepted}
use Rattle.header.proofs.Ranges.{ranged_of}
use Rattle.layout.specs.Outcomes.{size_tests, record_test}
use Rattle.univmon.specs.Calls.{place_tests}
use Rattle.words.proofs.Tests.{Off, off_number, number_first, number-rest, off_rest}
use Rattle.header.specs.declared.Header.{Header}
use Rattle.std.proofs.lemmas.Result.{err_from_is_err_and}
use Rattle.refusal.proofs.Numbers.{number-ne0}
use Rattle.univmon.proofs.stages.check_sound.Goals as goal
use Rattle.univmon.proofs.stages.check_sound.Goals.{In_ok-check_sizes, Start}

-- the header of what is lent
abbrev head-of : Start → Header
head-of c = head_of c.args.scalars c.args.lens.now c.args.flags.now

-- the tests of header and lengths, and the record's
abbrev sizes : Start → List (Bool × ℕ)
sizes c = let a = c.args in size_tests (head-of c) a.counters a.norms a.entries a.counts

abbrev sized : Start → List (Bool × ℕ)
sized c = place_tests (head-of c) ++ sizes c

abbrev last : Start → List (Bool × ℕ)
last c = record_test c.args.scalars.shape c.args.«record» ∷ []

-- no test of header and lengths holds
off : (c : In_ok-check_sizes) → Off ((place_tests ((head_of c.args.scalars c.args.lens.now c.args.flags.now)) ++ (let a = c.args in size_tests ((head_of c.args.scalars c.args.lens.now c.args.flags.now)) a.counters a.norms a.entries a.counts)))
off c = off_number ((place_tests ((head_of c.args.scalars c.args.lens.now c.args.flags.now)) ++ (let a = c.args in size_tests ((head_of c.args.scalars c.args.lens.now c.args.flags.now)) a.counters a.norms a.entries a.counts))) refl (sym c.in_ok-check_sizes.ensures)

-- so the shape is one that is accepted
accepted : (c : In_ok-check_sizes) → Accepted c.args.scalars.shape
accepted c = (ranged_of ((head_of c.args.scalars c.args.lens.now c.args.flags.now)) (not-false _ (off_rest (place_tests ((head_of c.args.scalars c.args.lens.now c.args.flags.now))) ((let a = c.args in size_tests ((head_of c.args.scalars c.args.lens.now c.args.flags.now)) a.counters a.norms a.entries a.counts)) (off c)).0)).accepted

pub returns-in_err-check_sizes : goal.returns-in_err-check_sizes
returns-in_err-check_sizes c =
    let k = (goal.at.returns-in_err-check_sizes c).Start in
    let p = err_from_is_err_and c.from_residual.result c.from_residual.ensures.1 in
    let e = c.in_err-check_sizes.ensures in
    rw (p.1, p.2) (e ∙ sym (number_first (sized k) (last k) (λ z. number-ne0 c.in_err-check_sizes.field-0.0 (e ∙ z))))

pub overflow_mul-scalars : goal.overflow_mul-scalars
overflow_mul-scalars c = let q = accepted (goal.at.overflow_mul-scalars c).In_ok-check_sizes in record { fits = omega (arith, q.few) }

pub overflow_add-scalars : goal.overflow_add-scalars
overflow_add-scalars c = let q = accepted (goal.at.overflow_add-scalars c).In_ok-check_sizes in record { fits = omega (arith, q.few) }

pub returns-then-record-scalars : goal.returns-then-record-scalars
returns-then-record-scalars c = sym (number-rest (sized (goal.at.returns-then-record-scalars c).Start) (last (goal.at.returns-then-record-scalars c).Start) (off (goal.at.returns-then-record-scalars c).In_ok-check_sizes) ∙ rw (ne_eqb _ _ c.if-record-scalars.true))

pub returns : goal.returns
returns c = sym (number-rest (sized (goal.at.returns c).Start) (last (goal.at.returns c).Start) (off (goal.at.returns c).In_ok-check_sizes) ∙ rw (eq-eqb _ _ c.if-record-scalars.false))
