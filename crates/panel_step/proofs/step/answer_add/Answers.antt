-- `panel_step::step::answer_add` meets its contract.
use mir.Facts.{to_z-of_z}
use Rattle.layout.specs.Slices.{Lent, lent}
use Rattle.panel_step.specs.Panel.{add_call}
use Rattle.panel_step.proofs.Replies.{kept_is, reply-put}
use Rattle.panel_step.proofs.step.answer_add.Goals as goal
use Rattle.panel_step.proofs.step.answer_add.Goals.{Start}

-- the state that is lent
abbrev here : Start → Lent
here c = lent c.args.header c.args.counters.now c.args.norms.now c.args.entries.now c.args.counts.now

pub returns : goal.returns
returns c =
    record {
      out_after = reply-put _ (add_call (here (goal.at.returns c).Start) c.args.«record».now c.args.weight) _ c.args.out.now _ (rw (c.unwrap_or.ensures, kept_is c.args.header c.add-a.result) (rw (to_z-of_z c.ranges.weight) at c.add-a.ensures)) c.put_reply-len.ensures.value c.put_reply-len.ensures.out_after;
      len_le_longest = c.put_reply-len.ensures.upper_bound;
    }
