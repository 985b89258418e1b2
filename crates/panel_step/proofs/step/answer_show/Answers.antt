-- `panel_step::step::answer_show` meets its contract.
use native.Mathlib.Omega.{arith}
use Rattle.layout.specs.Slices.{Lent, lent}
use Rattle.panel_step.specs.Panel.{show_line}
use Rattle.panel_step.proofs.Replies.{ended, text-put}
use Rattle.panel_step.proofs.step.answer_show.Goals as goal
use Rattle.panel_step.proofs.step.answer_show.Goals.{Start}

-- the state that is lent
abbrev here : Start → Lent
here c = lent c.args.header c.args.counters.now c.args.norms.now c.args.entries.now c.args.counts.now

pub returns : goal.returns
returns c =
    let z = ended c.args.out.now _ _ _ _ (show_line (here (goal.at.returns c).Start)) c.show-k.ensures.out_after c.show-k.ensures.value c.put_word-len.ensures.out_after c.put_word-len.ensures.value in
    record {
      out_after = text-put (here (goal.at.returns c).Start) (show_line (here (goal.at.returns c).Start)) _ c.args.out.now _ z.0 z.1;
      len_le_longest = omega (arith, c.show-k.ensures.upper_bound, c.put_word-len.ensures.value);
    }
