-- `panel_step::calls::add` meets its contract.
use Prim.Native.Nat.{◌≤◌}
use mathlib.Core.Path.{◌≡◌, sym, ap, ◌∙◌}
use lib.ListN.{length}
use lib.Seq.{length-take-le}
use native.Mathlib.Omega.{arith}
use mir.Facts.{to_z-of_z}
use mathlib.Core.Bool.{not}
use Rattle.refusal.proofs.Numbers.{ok_refused, err_refused}
use Rattle.header.proofs.Refusals.{accepted_of}
use Rattle.layout.specs.Slices.{Lent, lent}
use Rattle.layout.specs.Outcomes.{left_by}
use Rattle.layout.specs.declared.Extent.{Extent}
use Rattle.panel_step.specs.Panel.{refusal_in}
use Rattle.panel_step.proofs.Rooms.{Fit, fit_of}
use Rattle.panel_step.proofs.Fronts.{no_shape, own-list, has_added}
use Rattle.panel_step.proofs.calls.add.Goals as goal
use Rattle.panel_step.proofs.calls.add.Goals.{After-extent_of-e, Else-is_err, Start}

-- the state that is lent
abbrev here : Start → Lent
here c = lent c.args.header c.args.counters.now c.args.norms.now c.args.entries.now c.args.counts.now

-- the shape was taken
taken : (c : Else-is_err) → refusal_in (here (goal.at.Else-is_err c).Start) c.args.header.shape ≡ 0
taken c = sym c.check_panel.ensures ∙ ok_refused c.check_panel.result (c.is_err.ensures.negation ∙ ap not c.if-is_err.false)

fits : (c : Else-is_err) → let a = c.args in Fit a.header.shape (length a.counters.now) (length a.norms.now) (length a.entries.now) (length a.counts.now)
fits c = fit_of _ _ _ _ _ (taken c)

-- the parts lie within the slices
cells_in : (c : After-extent_of-e) → c.extent_of-e.result.cells ≤ length c.args.counters.now
cells_in c = omega (arith, ap (λ (x : Extent). x.cells) c.extent_of-e.ensures, (fits (goal.at.After-extent_of-e c).Else-is_err).cells)

norms-in : (c : After-extent_of-e) → c.extent_of-e.result.norms ≤ length c.args.norms.now
norms-in c = omega (arith, ap (λ (x : Extent). x.norms) c.extent_of-e.ensures, (fits (goal.at.After-extent_of-e c).Else-is_err).norms)

words-in : (c : After-extent_of-e) → c.extent_of-e.result.words ≤ length c.args.entries.now
words-in c = omega (arith, ap (λ (x : Extent). x.words) c.extent_of-e.ensures, (fits (goal.at.After-extent_of-e c).Else-is_err).words)

seats-in : (c : After-extent_of-e) → c.extent_of-e.result.seats ≤ length c.args.counts.now
seats-in c = omega (arith, ap (λ (x : Extent). x.seats) c.extent_of-e.ensures, (fits (goal.at.After-extent_of-e c).Else-is_err).seats)

pub returns-then-is_err : goal.returns-then-is_err
returns-then-is_err c = (no_shape (here (goal.at.returns-then-is_err c).Start) c.args.«record».now c.args.weight (rw c.check_panel.ensures at (err_refused c.check_panel.result (c.is_err.ensures.negation ∙ ap not c.if-is_err.true))))

pub extent_of-e-requires : goal.extent_of-e-requires
extent_of-e-requires c = accepted_of c.args.header.shape (fits (goal.at.extent_of-e-requires c).Else-is_err).own

pub slice_bounds-update_weighted-end : goal.slice_bounds-update_weighted-end
slice_bounds-update_weighted-end c = cells_in (goal.at.slice_bounds-update_weighted-end c).After-extent_of-e

pub slice_bounds-update_weighted-end-2 : goal.slice_bounds-update_weighted-end-2
slice_bounds-update_weighted-end-2 c = sym (length-take-le c.extent_of-e.result.cells c.args.counters.now (cells_in (goal.at.slice_bounds-update_weighted-end-2 c).After-extent_of-e))

pub slice_bounds-update_weighted-end-3 : goal.slice_bounds-update_weighted-end-3
slice_bounds-update_weighted-end-3 c = norms-in (goal.at.slice_bounds-update_weighted-end-3 c).After-extent_of-e

pub slice_bounds-update_weighted-end-4 : goal.slice_bounds-update_weighted-end-4
slice_bounds-update_weighted-end-4 c = sym (length-take-le c.extent_of-e.result.norms c.args.norms.now (norms-in (goal.at.slice_bounds-update_weighted-end-4 c).After-extent_of-e))

pub slice_bounds-update_weighted-end-5 : goal.slice_bounds-update_weighted-end-5
slice_bounds-update_weighted-end-5 c = words-in (goal.at.slice_bounds-update_weighted-end-5 c).After-extent_of-e

pub slice_bounds-update_weighted-end-6 : goal.slice_bounds-update_weighted-end-6
slice_bounds-update_weighted-end-6 c = sym (length-take-le c.extent_of-e.result.words c.args.entries.now (words-in (goal.at.slice_bounds-update_weighted-end-6 c).After-extent_of-e))

pub slice_bounds-update_weighted-end-7 : goal.slice_bounds-update_weighted-end-7
slice_bounds-update_weighted-end-7 c = seats-in (goal.at.slice_bounds-update_weighted-end-7 c).After-extent_of-e

pub slice_bounds-update_weighted-end-8 : goal.slice_bounds-update_weighted-end-8
slice_bounds-update_weighted-end-8 c = sym (length-take-le c.extent_of-e.result.seats c.args.counts.now (seats-in (goal.at.slice_bounds-update_weighted-end-8 c).After-extent_of-e))

pub returns : goal.returns
returns c =
    has_added (here (goal.at.returns c).Start) c.args.«record».now c.args.weight c.extent_of-e.result _ (taken (goal.at.returns c).Else-is_err) c.extent_of-e.ensures
    (rw (to_z-of_z c.ranges.weight) at c.update_weighted.ensures.counts_value
    ∙ ap (left_by _) (own-list _ c.args.«record».now c.args.weight))
