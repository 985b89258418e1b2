-- `panel_lines::answer::put_field` meets its contract.
use mathlib.Core.Path.{◌∙◌}
use native.Mathlib.Omega.{arith}
use Rattle.text.specs.Hex.{hex_digits}
use Rattle.text.proofs.Puts.{sets_append}
use Rattle.panel_lines.proofs.answer.put_field.Goals as goal

pub returns : goal.returns
returns c = record {
  value = omega (arith, c.put_hex.ensures.value, c.put_word-a.ensures.value);
  out_after = c.put_hex.ensures.out_after ∙ rw (c.put_word-a.ensures.out_after, c.put_word-a.ensures.value) (sets_append c.args.out.now c.args.at c.args.word.now (hex_digits 16 c.args.n));
}
