-- `estimates::calls::estimate_l2` meets its contract.
use mathlib.Core.Path.{◌≡◌, sym, ◌∙◌}
use mathlib.Core.Bool.{true}
use Rattle.estimates.specs.Calls.{norms_lent, l2_call}
use Rattle.estimates.proofs.Judges.{normed_of}
use Rattle.estimates.proofs.calls.estimate_l2.Goals as goal
use Rattle.estimates.proofs.calls.estimate_l2.Goals.{Else-not-norms_lent}

-- what is lent is sound
lent_ok : (c : Else-not-norms_lent) → norms_lent c.args.header c.args.norms.now ≡ true
lent_ok c = sym c.norms_lent.ensures ∙ c.if-not-norms_lent.false

pub returns-then-not-norms_lent : goal.returns-then-not-norms_lent
unfolding l2_call
returns-then-not-norms_lent c = sym (rw (sym c.norms_lent.ensures ∙ c.if-not-norms_lent.true))

pub l2_reads-requires : goal.l2_reads-requires
l2_reads-requires c = normed_of c.args.header c.args.norms.now (lent_ok (goal.at.l2_reads-requires c).Else-not-norms_lent)

pub returns-then-not-l2_reads : goal.returns-then-not-l2_reads
unfolding l2_call
returns-then-not-l2_reads c = sym (rw (lent_ok (goal.at.returns-then-not-l2_reads c).Else-not-norms_lent, sym c.l2_reads.ensures ∙ c.if-not-l2_reads.true))

pub l2_of-requires : goal.l2_of-requires
l2_of-requires c = normed_of c.args.header c.args.norms.now (lent_ok (goal.at.l2_of-requires c).Else-not-norms_lent)

pub returns : goal.returns
unfolding l2_call
returns c = rw c.l2_of.ensures (sym (rw (lent_ok (goal.at.returns c).Else-not-norms_lent, sym c.l2_reads.ensures ∙ c.if-not-l2_reads.false)))
