-- `state_forms::cells::lay_some` meets its contract.
use mathlib.Core.Path.{◌≡◌, sym, subst, ◌∙◌}
use mir.Facts.{to_z-of_z}
use Rattle.state_forms.specs.Grammar.{is_zero, cell_listing}
use Rattle.state_forms.specs.inner.Laying.{TextRoom}
use Rattle.state_forms.proofs.Layings.{laid_none, laid_is, one_none, one-some}
use Rattle.state_forms.proofs.cells.lay_some.Goals as goal
use Rattle.state_forms.proofs.cells.lay_some.Goals.{After-is_zero}

-- the answer of the test
test : (c : After-is_zero) → is_zero c.args.v ≡ c.is_zero.result
test c = sym (rw (to_z-of_z c.ranges.v) at c.is_zero.ensures)

pub returns-then-is_zero : goal.returns-then-is_zero
returns-then-is_zero c = laid_is (one_none cell_listing c.args.c c.args.v (test (goal.at.returns-then-is_zero c).After-is_zero ∙ c.if-is_zero.true)) (laid_none c.args.out.now c.args.at)

pub lay_cell-requires : goal.lay_cell-requires
lay_cell-requires c = rw (to_z-of_z c.ranges.v) (subst (TextRoom c.args.at) (sym (one-some cell_listing c.args.c c.args.v (test (goal.at.lay_cell-requires c).After-is_zero ∙ c.if-is_zero.false))) c.requires)

pub returns : goal.returns
returns c = laid_is (one-some cell_listing c.args.c c.args.v (test (goal.at.returns c).After-is_zero ∙ c.if-is_zero.false)) (rw (to_z-of_z c.ranges.v) at c.lay_cell.ensures)
