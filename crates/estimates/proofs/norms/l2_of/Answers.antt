-- `estimates::norms::l2_of` meets its contract.
use Rattle.std.proofs.Common.{sym, ap, ◌∙◌}
use mathlib.Core.Logic.{inl, inr}
use lib.Ieee.{Float}
use Rattle.estimates.specs.Norms.{l2_by, l2_of_state}
use Rattle.estimates.specs.Calls.{norm_state}
use Rattle.estimates.proofs.Layers.{l2_in}
use Rattle.float64.specs.Root.{root}
use Rattle.header.specs.declared.Mode.{Mode}
use Rattle.estimates.proofs.norms.l2_of.Goals as goal
use Rattle.estimates.proofs.norms.l2_of.Goals.{Start}

-- by the mode
by : (c : Start) → Mode → Float
by c m = l2_by m (norm_state c.args.header c.args.norms.now)

pub returns-in-Unset : goal.returns-in-Unset
unfolding by l2_of_state
returns-in-Unset c =
    let e = c.l2_at.ensures ∙ l2_in c.args.header c.args.norms.now 0 c.requires.accepted.some in
    elim c.in-Unset.is [ inl q ↦ e ∙ ap (by (goal.at.returns-in-Unset c).Start) (sym q) | inr q ↦ e ∙ ap (by (goal.at.returns-in-Unset c).Start) (sym q) ]

pub returns-in-Terminal : goal.returns-in-Terminal
unfolding by l2_of_state
returns-in-Terminal c = c.sqrt.ensures ∙ ap root c.squared_total.ensures ∙ ap (by (goal.at.returns-in-Terminal c).Start) (sym c.in-Terminal.is)
