-- `panel_step::extent::check_panel` meets its contract.
use mathlib.Core.Path.{◌≡◌, sym, ap, ◌∙◌}
use borrow.Author.Tests.{eq-eqb, ne_eqb, lt-ltb, le-ltb}
use Rattle.std.proofs.lemmas.Result.{err_from_is_err_and}
use Rattle.refusal.proofs.Numbers.{number-ne0}
use Rattle.header.specs.Shape.{shape_refusal}
use Rattle.header.proofs.Refusals.{accepted_of}
use Rattle.layout.specs.Slices.{cells_in, cands_in}
use Rattle.layout.specs.declared.Extent.{Extent}
use Rattle.panel_step.specs.Panel.{panel_refusal}
use Rattle.panel_step.proofs.extent.check_panel.Goals as goal
use Rattle.panel_step.proofs.extent.check_panel.Goals.{
  After-extent_of-e,
  In_ok-check,
  else-e-le-MAX_COUNTERS-via-then-e-le-MAX_COUNTERS+then-e-le-MAX_CANDIDATES+else-has_room,
  else-e-le-MAX_COUNTERS-via-then-e-le-MAX_COUNTERS+else-e-le-MAX_CANDIDATES,
  else-e-le-MAX_COUNTERS-via-else-e-le-MAX_COUNTERS,
}

-- the shape's own tests were passed
own : (c : In_ok-check) → shape_refusal c.args.shape ≡ 0
own c = sym c.in_ok-check.ensures

-- the extent's numbers
cells_are : (c : After-extent_of-e) → c.extent_of-e.result.cells ≡ cells_in c.args.shape
cells_are c = ap (λ (x : Extent). x.cells) c.extent_of-e.ensures

seats_are : (c : After-extent_of-e) → c.extent_of-e.result.seats ≡ cands_in c.args.shape
seats_are c = ap (λ (x : Extent). x.seats) c.extent_of-e.ensures

pub returns-in_err-check : goal.returns-in_err-check
unfolding panel_refusal
returns-in_err-check c =
    let p = err_from_is_err_and c.from_residual.result c.from_residual.ensures.1 in
    let e = c.in_err-check.ensures in
    rw (p.1, p.2) (simp (ne_eqb (shape_refusal c.args.shape) 0 (rw e at (number-ne0 c.in_err-check.field-0.0)), e))

pub extent_of-e-requires : goal.extent_of-e-requires
extent_of-e-requires c = accepted_of c.args.shape (own (goal.at.extent_of-e-requires c).In_ok-check)

pub returns-then-has_room : goal.returns-then-has_room
unfolding panel_refusal
returns-then-has_room c =
    let z = eq-eqb (shape_refusal c.args.shape) 0 (own (goal.at.returns-then-has_room c).In_ok-check) in
    let x = le-ltb _ _ (rw (cells_are (goal.at.returns-then-has_room c).After-extent_of-e) at c.if-e-le-MAX_COUNTERS.true) in
    let s = le-ltb _ _ (rw (seats_are (goal.at.returns-then-has_room c).After-extent_of-e) at c.if-e-le-MAX_CANDIDATES.true) in
    simp (z, x, s, sym (rw c.extent_of-e.ensures at c.has_room.ensures) ∙ c.if-has_room.true)

pub returns-else-e-le-MAX_COUNTERS : goal.returns-else-e-le-MAX_COUNTERS
unfolding panel_refusal
returns-else-e-le-MAX_COUNTERS c =
    let z = eq-eqb (shape_refusal c.args.shape) 0 (own (goal.at.returns-else-e-le-MAX_COUNTERS c).In_ok-check) in
    let p = cells_are (goal.at.returns-else-e-le-MAX_COUNTERS c).After-extent_of-e in
    let q = seats_are (goal.at.returns-else-e-le-MAX_COUNTERS c).After-extent_of-e in
    elim c.else-e-le-MAX_COUNTERS.branch [
      | else-e-le-MAX_COUNTERS-via-then-e-le-MAX_COUNTERS+then-e-le-MAX_CANDIDATES+else-has_room w ↦
          simp (
            z,
            le-ltb _ _ (rw p at w.if-e-le-MAX_COUNTERS.true),
            le-ltb _ _ (rw q at w.if-e-le-MAX_CANDIDATES.true),
            sym (rw c.extent_of-e.ensures at w.has_room.ensures) ∙ w.if-has_room.false,
          )
      | else-e-le-MAX_COUNTERS-via-then-e-le-MAX_COUNTERS+else-e-le-MAX_CANDIDATES w ↦
          simp (z, le-ltb _ _ (rw p at w.if-e-le-MAX_COUNTERS.true), lt-ltb _ _ (rw q at w.if-e-le-MAX_CANDIDATES.false))
      | else-e-le-MAX_COUNTERS-via-else-e-le-MAX_COUNTERS w ↦ simp (z, lt-ltb _ _ (rw p at w.if-e-le-MAX_COUNTERS.false))
    ]
