-- `text::signed::signed_field` meets its contract.
use Rattle.std.proofs.Common.{◌∙◌, sym}
use borrow.Author.Tests.{eq-eqb, ne_eqb, lt-leb}
use Rattle.text.specs.Signs.{int_at, negated, unsigned}
use Rattle.text.proofs.signed.signed_field.Goals as goal

pub returns-in_err-v : goal.returns-in_err-v
unfolding int_at negated
returns-in_err-v c = c.from_residual.ensures ∙ simp (lt-leb _ _ c.if-s-at.false, eq-eqb _ _ c.if-s-at-eq45.true, sym c.in_err-v.ensures)

pub returns-in_err-v-2 : goal.returns-in_err-v-2
unfolding int_at unsigned
returns-in_err-v-2 c = c.from_residual-in_err-v-2.ensures ∙ simp (lt-leb _ _ c.if-s-at.false, ne_eqb _ _ c.if-s-at-eq45.false, sym c.in_err-v-2.ensures)
