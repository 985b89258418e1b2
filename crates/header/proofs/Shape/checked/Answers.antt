-- `header::Shape::checked` meets its contract.
use Rattle.std.proofs.Common.{sym}
use borrow.Author.Tests.{eq-eqb, ne_eqb}
use Rattle.std.proofs.lemmas.Result.{err_from_is_err_and}
use Rattle.refusal.proofs.Numbers.{number-ne0}
use Rattle.header.specs.Shape.{checked_shape}
use Rattle.header.proofs.Shape.checked.Goals as goal

pub returns-in_err-check : goal.returns-in_err-check
unfolding checked_shape
returns-in_err-check c =
    let p = err_from_is_err_and c.from_residual.result c.from_residual.ensures.1 in
    rw (p.1, p.2, ← c.in_err-check.ensures) (simp (ne_eqb _ 0 (number-ne0 c.in_err-check.field-0.0)))

pub returns : goal.returns
unfolding checked_shape
returns c = simp (eq-eqb _ 0 (sym c.in_ok-check.ensures))
