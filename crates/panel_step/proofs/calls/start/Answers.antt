-- `panel_step::calls::start` meets its contract.
use Prim.Native.Nat.{◌≤◌}
use mathlib.Core.Path.{◌≡◌, sym, ap}
use lib.ListN.{length}
use lib.Seq.{length-take-le}
use native.Mathlib.Omega.{arith}
use Rattle.std.proofs.lemmas.Result.{err_from_is_err_and}
use Rattle.refusal.specs.Refusals.{number_of}
use Rattle.refusal.proofs.Numbers.{number-ne0}
use Rattle.header.proofs.Refusals.{accepted_of}
use Rattle.layout.specs.Slices.{Lent, lent}
use Rattle.layout.specs.Outcomes.{Left}
use Rattle.layout.specs.declared.Extent.{Extent}
use Rattle.header.specs.Header.{zero_header}
use Rattle.panel_step.specs.Panel.{refusal_in}
use Rattle.panel_step.proofs.Rooms.{Fit, fit_of}
use Rattle.panel_step.proofs.Fronts.{not-started, started_well, kept_any, has-started}
use Rattle.panel_step.proofs.calls.start.Goals as goal
use Rattle.panel_step.proofs.calls.start.Goals.{After-extent_of-e, In_ok-check_panel, Start}

-- the state that is lent
abbrev here : Start → Lent
here c = lent c.args.header c.args.counters.now c.args.norms.now c.args.entries.now c.args.counts.now

-- the shape was taken
taken : (c : In_ok-check_panel) → refusal_in (here (goal.at.In_ok-check_panel c).Start) c.args.shape ≡ 0
taken c = sym c.in_ok-check_panel.ensures

fits : (c : In_ok-check_panel) → let a = c.args in Fit a.shape (length a.counters.now) (length a.norms.now) (length a.entries.now) (length a.counts.now)
fits c = fit_of _ _ _ _ _ (taken c)

-- the parts lie within the slices
cells_in : (c : After-extent_of-e) → c.extent_of-e.result.cells ≤ length c.args.counters.now
cells_in c = omega (arith, ap (λ (x : Extent). x.cells) c.extent_of-e.ensures, (fits (goal.at.After-extent_of-e c).In_ok-check_panel).cells)

norms-in : (c : After-extent_of-e) → c.extent_of-e.result.norms ≤ length c.args.norms.now
norms-in c = omega (arith, ap (λ (x : Extent). x.norms) c.extent_of-e.ensures, (fits (goal.at.After-extent_of-e c).In_ok-check_panel).norms)

words-in : (c : After-extent_of-e) → c.extent_of-e.result.words ≤ length c.args.entries.now
words-in c = omega (arith, ap (λ (x : Extent). x.words) c.extent_of-e.ensures, (fits (goal.at.After-extent_of-e c).In_ok-check_panel).words)

seats-in : (c : After-extent_of-e) → c.extent_of-e.result.seats ≤ length c.args.counts.now
seats-in c = omega (arith, ap (λ (x : Extent). x.seats) c.extent_of-e.ensures, (fits (goal.at.After-extent_of-e c).In_ok-check_panel).seats)

pub returns-in_err-check_panel : goal.returns-in_err-check_panel
returns-in_err-check_panel c =
    let p = err_from_is_err_and c.from_residual.result c.from_residual.ensures.1 in
    let e = c.in_err-check_panel.field-0.0 in
    rw (p.1, p.2) (not-started (here (goal.at.returns-in_err-check_panel c).Start) c.args.shape (number_of e) c.in_err-check_panel.ensures (number-ne0 e))

pub extent_of-e-requires : goal.extent_of-e-requires
extent_of-e-requires c = accepted_of c.args.shape (fits (goal.at.extent_of-e-requires c).In_ok-check_panel).own

pub slice_bounds-new_two_tier-end : goal.slice_bounds-new_two_tier-end
slice_bounds-new_two_tier-end c = cells_in (goal.at.slice_bounds-new_two_tier-end c).After-extent_of-e

pub slice_bounds-new_two_tier-end-2 : goal.slice_bounds-new_two_tier-end-2
slice_bounds-new_two_tier-end-2 c = sym (length-take-le c.extent_of-e.result.cells c.args.counters.now (cells_in (goal.at.slice_bounds-new_two_tier-end-2 c).After-extent_of-e))

pub slice_bounds-new_two_tier-end-3 : goal.slice_bounds-new_two_tier-end-3
slice_bounds-new_two_tier-end-3 c = norms-in (goal.at.slice_bounds-new_two_tier-end-3 c).After-extent_of-e

pub slice_bounds-new_two_tier-end-4 : goal.slice_bounds-new_two_tier-end-4
slice_bounds-new_two_tier-end-4 c = sym (length-take-le c.extent_of-e.result.norms c.args.norms.now (norms-in (goal.at.slice_bounds-new_two_tier-end-4 c).After-extent_of-e))

pub slice_bounds-new_two_tier-end-5 : goal.slice_bounds-new_two_tier-end-5
slice_bounds-new_two_tier-end-5 c = words-in (goal.at.slice_bounds-new_two_tier-end-5 c).After-extent_of-e

pub slice_bounds-new_two_tier-end-6 : goal.slice_bounds-new_two_tier-end-6
slice_bounds-new_two_tier-end-6 c = sym (length-take-le c.extent_of-e.result.words c.args.entries.now (words-in (goal.at.slice_bounds-new_two_tier-end-6 c).After-extent_of-e))

pub slice_bounds-new_two_tier-end-7 : goal.slice_bounds-new_two_tier-end-7
slice_bounds-new_two_tier-end-7 c = seats-in (goal.at.slice_bounds-new_two_tier-end-7 c).After-extent_of-e

pub slice_bounds-new_two_tier-end-8 : goal.slice_bounds-new_two_tier-end-8
slice_bounds-new_two_tier-end-8 c = sym (length-take-le c.extent_of-e.result.seats c.args.counts.now (seats-in (goal.at.slice_bounds-new_two_tier-end-8 c).After-extent_of-e))

pub returns : goal.returns
returns c =
    let r = here (goal.at.returns c).Start in
    let z = taken (goal.at.returns c).In_ok-check_panel in
    let o = ap (λ (l : Left). l.refusal) (started_well r c.args.shape c.extent_of-e.result _ z c.extent_of-e.ensures c.new_two_tier.ensures) in
    rw (kept_any c.args.header zero_header c.new_two_tier.result o) (has-started r c.args.shape c.extent_of-e.result _ z c.extent_of-e.ensures c.new_two_tier.ensures)
