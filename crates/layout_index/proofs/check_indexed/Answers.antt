-- `layout_index::check_indexed` meets its contract.
use Prim.Native.Nat.{ℕ}
use mathlib.Core.Path.{refl, sym, ◌∙◌}
use mathlib.Core.Bool.{Bool}
use mathlib.Core.List.{List, [], ◌∷◌}
use lib.ListN.{length}
use borrow.Author.Tests.{eq-eqb, ne_eqb, not-false}
use Rattle.header.proofs.Ranges.{ranged_of}
use Rattle.layout_index.specs.Tables.{tables_test}
use Rattle.words.proofs.Tests.{Off, off_number, number_first, number-rest}
use Rattle.layout.specs.Slices.{Lent, lent}
use Rattle.layout.specs.Outcomes.{lent_tests}
use Rattle.std.proofs.lemmas.Result.{err_from_is_err_and}
use Rattle.refusal.proofs.Numbers.{number-ne0}
use Rattle.layout_index.proofs.check_indexed.Goals as goal
use Rattle.layout_index.proofs.check_indexed.Goals.{In_ok-check_lent, Start}

-- the state that is lent, and the test of its index
abbrev lent_of : Start → Lent
lent_of c = lent c.args.h c.args.counters.now c.args.norms.now c.args.entries.now c.args.counts.now

abbrev last : Start → List (Bool × ℕ)
last c = tables_test c.args.h.shape (length c.args.index.now) ∷ []

-- header and lengths were found right
off : (c : In_ok-check_lent) → Off (lent_tests (lent_of (goal.at.In_ok-check_lent c).Start))
off c = off_number (lent_tests (lent_of (goal.at.In_ok-check_lent c).Start)) refl (sym c.in_ok-check_lent.ensures)

pub returns-in_err-check_lent : goal.returns-in_err-check_lent
returns-in_err-check_lent c =
    let p = err_from_is_err_and c.from_residual.result c.from_residual.ensures.1 in
    rw (p.1, p.2) (let e = c.in_err-check_lent.ensures in e ∙ sym (number_first (lent_tests (lent_of (goal.at.returns-in_err-check_lent c).Start)) (last (goal.at.returns-in_err-check_lent c).Start) (λ z. (number-ne0 c.in_err-check_lent.field-0.0) (e ∙ z))))

pub tables_in-requires : goal.tables_in-requires
tables_in-requires c = (ranged_of c.args.h (not-false _ (off (goal.at.tables_in-requires c).In_ok-check_lent).0)).accepted

pub returns-then-index-tables_in : goal.returns-then-index-tables_in
returns-then-index-tables_in c = sym (number-rest (lent_tests (lent_of (goal.at.returns-then-index-tables_in c).Start)) (last (goal.at.returns-then-index-tables_in c).Start) (off (goal.at.returns-then-index-tables_in c).In_ok-check_lent) ∙ rw (ne_eqb _ _ (rw c.tables_in.ensures at c.if-index-tables_in.true)))

pub returns : goal.returns
returns c = sym (number-rest (lent_tests (lent_of (goal.at.returns c).Start)) (last (goal.at.returns c).Start) (off (goal.at.returns c).In_ok-check_lent) ∙ rw (eq-eqb _ _ (rw c.tables_in.ensures at c.if-index-tables_in.false)))
