-- `panel_step::calls::show` meets its contract.
use Prim.Native.Nat.{◌≤◌}
use mathlib.Core.Path.{◌≡◌, sym, ap, ◌∙◌}
use lib.ListN.{length}
use lib.Seq.{sets, length-take-le}
use native.Mathlib.Omega.{arith}
use mathlib.Core.Bool.{not}
use Rattle.refusal.proofs.Numbers.{ok_refused, err_refused}
use Rattle.header.proofs.Refusals.{accepted_of}
use Rattle.layout.specs.Slices.{Lent, lent}
use Rattle.layout.specs.declared.Extent.{Extent}
use Rattle.panel_step.specs.Panel.{refusal_in}
use Rattle.panel_step.proofs.Rooms.{Fit, fit_of}
use Rattle.panel_step.proofs.Replies.{nothing_shown, state_shown}
use Rattle.panel_step.proofs.calls.show.Goals as goal
use Rattle.panel_step.proofs.calls.show.Goals.{After-extent_of-e, Else-is_err, Start}

-- the state that is lent
abbrev here : Start → Lent
here c = lent c.args.header c.args.counters.now c.args.norms.now c.args.entries.now c.args.counts.now

-- the shape was taken
taken : (c : Else-is_err) → refusal_in (here (goal.at.Else-is_err c).Start) c.args.header.shape ≡ 0
taken c = sym c.check_panel.ensures ∙ ok_refused c.check_panel.result (c.is_err.ensures.negation ∙ ap not c.if-is_err.false)

fits : (c : Else-is_err) → let a = c.args in Fit a.header.shape (length a.counters.now) (length a.norms.now) (length a.entries.now) (length a.counts.now)
fits c = fit_of _ _ _ _ _ (taken c)

-- the parts lie within the slices
cells_in : (c : After-extent_of-e) → c.extent_of-e.result.cells ≤ length c.args.counters.now
cells_in c = omega (arith, ap (λ (x : Extent). x.cells) c.extent_of-e.ensures, (fits (goal.at.After-extent_of-e c).Else-is_err).cells)

norms-in : (c : After-extent_of-e) → c.extent_of-e.result.norms ≤ length c.args.norms.now
norms-in c = omega (arith, ap (λ (x : Extent). x.norms) c.extent_of-e.ensures, (fits (goal.at.After-extent_of-e c).Else-is_err).norms)

words-in : (c : After-extent_of-e) → c.extent_of-e.result.words ≤ length c.args.entries.now
words-in c = omega (arith, ap (λ (x : Extent). x.words) c.extent_of-e.ensures, (fits (goal.at.After-extent_of-e c).Else-is_err).words)

seats-in : (c : After-extent_of-e) → c.extent_of-e.result.seats ≤ length c.args.counts.now
seats-in c = omega (arith, ap (λ (x : Extent). x.seats) c.extent_of-e.ensures, (fits (goal.at.After-extent_of-e c).Else-is_err).seats)

pub returns-then-is_err : goal.returns-then-is_err
returns-then-is_err c =
    let t = nothing_shown (here (goal.at.returns-then-is_err c).Start) (rw c.check_panel.ensures at (err_refused c.check_panel.result (c.is_err.ensures.negation ∙ ap not c.if-is_err.true))) in
    record {
      value = (rw c.number.ensures at c.put_refused.ensures.value) ∙ ap length t;
      out_after = (rw c.number.ensures at c.put_refused.ensures.out_after) ∙ ap (sets c.args.out.now 0) t;
      upper_bound = omega (arith, c.put_refused.ensures.upper_bound);
    }

pub extent_of-e-requires : goal.extent_of-e-requires
extent_of-e-requires c = accepted_of c.args.header.shape (fits (goal.at.extent_of-e-requires c).Else-is_err).own

pub slice_bounds-show_parts-end : goal.slice_bounds-show_parts-end
slice_bounds-show_parts-end c = sym (length-take-le c.extent_of-e.result.cells c.args.counters.now (cells_in (goal.at.slice_bounds-show_parts-end c).After-extent_of-e))

pub slice_bounds-show_parts-end-2 : goal.slice_bounds-show_parts-end-2
slice_bounds-show_parts-end-2 c = sym (length-take-le c.extent_of-e.result.norms c.args.norms.now (norms-in (goal.at.slice_bounds-show_parts-end-2 c).After-extent_of-e))

pub slice_bounds-show_parts-end-3 : goal.slice_bounds-show_parts-end-3
slice_bounds-show_parts-end-3 c = sym (length-take-le c.extent_of-e.result.words c.args.entries.now (words-in (goal.at.slice_bounds-show_parts-end-3 c).After-extent_of-e))

pub slice_bounds-show_parts-end-4 : goal.slice_bounds-show_parts-end-4
slice_bounds-show_parts-end-4 c = sym (length-take-le c.extent_of-e.result.seats c.args.counts.now (seats-in (goal.at.slice_bounds-show_parts-end-4 c).After-extent_of-e))

pub show_parts-requires : goal.show_parts-requires
show_parts-requires c = record {
  layers_le_max_layers = (accepted_of c.args.header.shape (fits (goal.at.show_parts-requires c).Else-is_err).own).few;
  updates_digits_in_bounds = c.requires;
}

pub returns : goal.returns
returns c =
    let t = state_shown (here (goal.at.returns c).Start) c.extent_of-e.result (taken (goal.at.returns c).Else-is_err) c.extent_of-e.ensures in
    record {
      value = c.show_parts.ensures.value ∙ ap length t;
      out_after = c.show_parts.ensures.out_after ∙ ap (sets c.args.out.now 0) t;
      upper_bound = c.show_parts.ensures.upper_bound;
    }
