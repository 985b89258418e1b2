-- `univmon_two_tier::lending::univmon_two_tier_update_weighted_lent` meets its contract.
use lib.ListN.{length}
use mathlib.Core.Path.{ap, ◌∙◌}
use mir.Facts.{to_z-of_z}
use Rattle.header.specs.declared.Scalars.{Scalars}
use Rattle.header.specs.Answers.{answered_lent_by}
use Rattle.univmon.specs.declared.Kind.TheVariants as kind
use Rattle.univmon_c.specs.Crossing.{c_step}
use Rattle.univmon_c.specs.Calls.{CLent, c_lent}
use Rattle.univmon_c.proofs.Turning.{stepped}
use Rattle.univmon_two_tier.specs.Crossing.{c_head, two_tier_face}
use Rattle.univmon_two_tier.specs.declared.CTwoTier.{CTwoTier}
use Rattle.univmon_two_tier.proofs.lending.univmon_two_tier_update_weighted_lent.Goals as goal
use Rattle.univmon_two_tier.proofs.lending.univmon_two_tier_update_weighted_lent.Goals.{Start}

-- what C lends
abbrev here : Start → CLent CTwoTier
here c = c_lent (c_head c.args.shape c.args.total_weight c.args.total_updates c.args.mode c.args.lens.now c.args.flags.now) c.args.counters.now c.args.norms.now c.args.entries.now c.args.counts.now

pub returns-clause-counts_value : goal.returns-clause-counts_value
returns-clause-counts_value c =
    let a = c.args in
    rw (c.c_step.ensures ∙ ap (λ (s : Scalars). c_step (answered_lent_by s c.update_weighted_lent.result)) c.in-Some.ensures.1)
    (stepped two_tier_face kind.Standard a.«record».now a.weight (length a.list.now) (here (goal.at.returns-clause-counts_value c).Start) c.in-Some.ensures.0 _ _ (rw (c.in-Some.ensures.1, to_z-of_z c.ranges.weight) at c.update_weighted_lent.ensures.counts_value))
