-- `estimates::norms::l2_reads` meets its contract.
use Rattle.std.proofs.Common.{Bool, sym, ap, ◌∙◌}
use mathlib.Core.Logic.{inl, inr}
use Rattle.estimates.specs.Calls.{norm_state, l2_reads}
use Rattle.estimates.proofs.Layers.{read_in}
use Rattle.header.specs.declared.Mode.{Mode}
use Rattle.estimates.proofs.norms.l2_reads.Goals as goal
use Rattle.estimates.proofs.norms.l2_reads.Goals.{Start}

-- by the mode
by : (c : Start) → Mode → Bool
by c m = l2_reads m (norm_state c.args.header c.args.norms.now)

pub returns-in-Unset : goal.returns-in-Unset
unfolding by
returns-in-Unset c =
    let e = c.norms_read_at.ensures ∙ read_in c.args.header c.args.norms.now 0 c.requires.accepted.some in
    elim c.in-Unset.is [ inl q ↦ e ∙ ap (by (goal.at.returns-in-Unset c).Start) (sym q) | inr q ↦ e ∙ ap (by (goal.at.returns-in-Unset c).Start) (sym q) ]
