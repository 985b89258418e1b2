-- `state_check::candidates::is_none` meets its contract.
use mathlib.Core.Path.{sym}
use borrow.Author.Tests.{eq-eqb, ne_eqb}
use mir.Facts.{to_z-of_z}
use Rattle.state_check.specs.Check.{is_none}
use Rattle.state_check.proofs.candidates.is_none.Goals as goal

pub returns-then-item-ne0 : goal.returns-then-item-ne0
unfolding is_none
returns-then-item-ne0 c = sym (rw (ne_eqb _ 0 c.if-item-ne0.true))

pub returns-then-item-ne0-2 : goal.returns-then-item-ne0-2
unfolding is_none
returns-then-item-ne0-2 c = sym (rw (eq-eqb _ 0 c.if-item-ne0.false, ne_eqb _ 0 c.if-item-ne0-2.true))

pub returns-then-item-ne0-3 : goal.returns-then-item-ne0-3
unfolding is_none
returns-then-item-ne0-3 c = sym (rw (eq-eqb _ 0 c.if-item-ne0.false, eq-eqb _ 0 c.if-item-ne0-2.false, ne_eqb _ 0 c.if-item-ne0-3.true))

pub returns-then-item-ne0-4 : goal.returns-then-item-ne0-4
unfolding is_none
returns-then-item-ne0-4 c = sym (rw (eq-eqb _ 0 c.if-item-ne0.false, eq-eqb _ 0 c.if-item-ne0-2.false, eq-eqb _ 0 c.if-item-ne0-3.false, ne_eqb _ 0 c.if-item-ne0-4.true))

pub returns-then-count-le0 : goal.returns-then-count-le0
unfolding is_none
returns-then-count-le0 c =
    let f = to_z-of_z c.ranges.count in
    rw f
    (sym (rw (eq-eqb _ 0 c.if-item-ne0.false, eq-eqb _ 0 c.if-item-ne0-2.false, eq-eqb _ 0 c.if-item-ne0-3.false, eq-eqb _ 0 c.if-item-ne0-4.false, rw f at c.if-count-le0.true)))

pub returns : goal.returns
unfolding is_none
returns c =
    let f = to_z-of_z c.ranges.count in
    sym (rw (eq-eqb _ 0 c.if-item-ne0.false, eq-eqb _ 0 c.if-item-ne0-2.false, eq-eqb _ 0 c.if-item-ne0-3.false, eq-eqb _ 0 c.if-item-ne0-4.false, rw f at c.if-count-le0.false))
