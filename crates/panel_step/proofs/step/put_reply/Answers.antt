-- `panel_step::step::put_reply` meets its contract.
use Prim.Native.Nat.{◌+◌, ◌≤◌}
use mathlib.Core.Path.{◌≡◌, ap, ◌∙◌}
use lib.ListN.{length}
use lib.Seq.{sets}
use native.Mathlib.Omega.{arith}
use Rattle.refusal.specs.Refusals.{number_of, refused}
use Rattle.refusal.proofs.Numbers.{number-ne0}
use Rattle.panel_step.specs.Panel.{reply_text, longest}
use Rattle.panel_step.proofs.Replies.{ended, reply-ok, reply_no}
use Rattle.panel_step.proofs.step.put_reply.Goals as goal
use Rattle.panel_step.proofs.step.put_reply.Goals.{Joined-answer, in-Ok, in-Err}

-- the text before the newline
texts : (c : Joined-answer) → (c.match-answer.end ≡ length (reply_text (refused c.args.answer))) × ((c.match-answer.out ≡ sets c.args.out.now 0 (reply_text (refused c.args.answer))) × (c.match-answer.end + 1 ≤ longest))
texts c =
    elim c.match-answer.branch [
      | in-Ok w ↦
          let t = reply-ok in
          rw (w.in-Ok.is, w.out-is, w.end-is) (w.put_ok-end.ensures.value ∙ ap length t, (w.put_ok-end.ensures.out_after ∙ ap (sets c.args.out.now 0) t, omega (arith, w.put_ok-end.ensures.value)))
      | in-Err w ↦
          let e = w.in-Err.refusal in
          let t = reply_no (number_of e) (number-ne0 e) in
          let v = rw w.number.ensures at w.put_refused-end.ensures.value in
          let o = rw w.number.ensures at w.put_refused-end.ensures.out_after in
          rw (w.in-Err.is, w.out-is, w.end-is) (v ∙ ap length t, (o ∙ ap (sets c.args.out.now 0) t, omega (arith, w.put_refused-end.ensures.upper_bound)))
    ]

pub returns : goal.returns
returns c =
    let t = texts (goal.at.returns c).Joined-answer in
    let z = ended c.args.out.now _ _ _ _ (reply_text (refused c.args.answer)) t.1.0 t.0 c.put_word.ensures.out_after c.put_word.ensures.value in
    record {
      value = z.0;
      out_after = z.1;
      upper_bound = omega (arith, t.1.1, c.put_word.ensures.value);
    }
