-- `panel_lines::answer::put_show` meets its contract. The words and lists are variables in `show-put`:
-- with the literal words in it the check stops at its limit.
use native.Mathlib.Omega.{arith}
use Rattle.text.specs.Words.{bytes_of}
use Rattle.panel_lines.specs.Answers.{updates_text, show_text}
use Rattle.panel_lines.proofs.Texts.{show-put, show_is}
use Rattle.panel_lines.proofs.answer.put_show.Goals as goal

pub returns : goal.returns
returns c =
    let r = show-put c.args.out.now _ _ _ _ _ _ _ _ _ _ _ _ (bytes_of "(show (l1 ") (bytes_of ") (l2 ") (bytes_of ") (keys ") (bytes_of ") (flags") (updates_text c.args.updates) c.args.l1 c.args.l2 c.args.keys c.args.flags.now (show_text c.args.l1 c.args.l2 c.args.keys c.args.flags.now c.args.updates) (show_is c.args.l1 c.args.l2 c.args.keys c.args.flags.now c.args.updates) c.put_field-a.ensures.out_after c.put_field-a.ensures.value c.put_field-b.ensures.out_after c.put_field-b.ensures.value c.put_field-c.ensures.out_after c.put_field-c.ensures.value c.put_word-d.ensures.out_after c.put_word-d.ensures.value c.put_flags-e.ensures.out_after c.put_flags-e.ensures.value c.put_updates.ensures.out_after c.put_updates.ensures.value in
    record {
      value = r.0;
      out_after = r.1;
      value_2 = omega (arith, c.put_field-a.ensures.value, c.put_field-b.ensures.value, c.put_field-c.ensures.value, c.put_word-d.ensures.value, c.put_flags-e.ensures.value, c.put_updates.ensures.value_2);
    }
