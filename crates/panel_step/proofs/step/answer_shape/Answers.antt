-- `panel_step::step::answer_shape` meets its contract.
use Rattle.layout.specs.Slices.{Lent, lent}
use Rattle.panel_step.specs.Panel.{shape_call}
use Rattle.panel_step.proofs.Replies.{kept_is, reply-put}
use Rattle.panel_step.proofs.step.answer_shape.Goals as goal
use Rattle.panel_step.proofs.step.answer_shape.Goals.{Start}

-- the state that is lent
abbrev here : Start → Lent
here c = lent c.args.header c.args.counters.now c.args.norms.now c.args.entries.now c.args.counts.now

pub returns : goal.returns
returns c =
    record {
      out_after = reply-put _ (shape_call (here (goal.at.returns c).Start) c.args.shape) _ c.args.out.now _ (rw (c.unwrap_or.ensures, kept_is c.args.header c.start-a.result) c.start-a.ensures) c.put_reply-len.ensures.value c.put_reply-len.ensures.out_after;
      len_le_longest = c.put_reply-len.ensures.upper_bound;
    }
