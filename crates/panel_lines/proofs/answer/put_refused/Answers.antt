-- `panel_lines::answer::put_refused` meets its contract.
use mathlib.Core.Path.{refl, ap, ◌∙◌}
use lib.ListN.{length}
use lib.Seq.{length-sets}
use native.Mathlib.Omega.{arith}
use Rattle.text.specs.Decimals.{dec}
use Rattle.text.specs.Words.{bytes_of}
use Rattle.text.proofs.DecTexts.{dec-length}
use Rattle.panel_lines.specs.Answers.{refused_text}
use Rattle.panel_lines.proofs.Texts.{three_put}
use native.Mathlib.Nat.{zero-add}
use Rattle.panel_lines.proofs.answer.put_refused.Goals as goal

pub put_decimal-b-requires : goal.put_decimal-b-requires
put_decimal-b-requires c = omega (arith, dec-length c.args.n, c.put_word-a.ensures.value, simp length-sets at (ap length c.put_word-a.ensures.out_after), c.requires)

pub put_word-requires : goal.put_word-requires
put_word-requires c = omega (arith, dec-length c.args.n, c.put_word-a.ensures.value, simp length-sets at (ap length c.put_word-a.ensures.out_after), c.put_decimal-b.ensures.value, simp length-sets at (ap length c.put_decimal-b.ensures.out_after), c.requires)

pub returns : goal.returns
unfolding refused_text
returns c =
    let r = three_put c.args.out.now _ _ _ 0 _ _ _ (bytes_of "(refused ") (dec c.args.n) (bytes_of ")") (refused_text c.args.n) refl c.put_word-a.ensures.out_after c.put_word-a.ensures.value c.put_decimal-b.ensures.out_after c.put_decimal-b.ensures.value c.put_word.ensures.out_after c.put_word.ensures.value in
    record {
      value = r.0 ∙ zero-add (length (refused_text c.args.n));
      out_after = r.1;
      upper_bound = omega (arith, dec-length c.args.n, c.put_word-a.ensures.value, c.put_decimal-b.ensures.value, c.put_word.ensures.value);
    }
