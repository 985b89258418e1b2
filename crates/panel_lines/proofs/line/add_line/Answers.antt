-- `panel_lines::line::add_line` meets its contract.
use Prim.Native.Nat.{◌+◌}
use mathlib.Core.Path.{sym, ◌∙◌}
use lib.ListN.{length-set}
use native.Mathlib.Omega.{arith}
use Rattle.text.proofs.HexTexts.{hex_room}
use Rattle.text.proofs.IntReads.{int-fits}
use Rattle.panel_lines.specs.Line.{read_add}
use Rattle.panel_lines.proofs.Tails.{tail_room}
use Rattle.panel_lines.proofs.line.add_line.Goals as goal

pub overflow_add-p : goal.overflow_add-p
overflow_add-p c = record { fits = omega (arith, hex_room c.args.s.now c.in_ok-weight.j (sym c.hex_ok.ensures ∙ c.if-not-hex_ok.false), c.requires.s_len_bound) }

pub hex_value-requires : goal.hex_value-requires
hex_value-requires c = hex_room c.args.s.now c.in_ok-weight.j (sym c.hex_ok.ensures ∙ c.if-not-hex_ok.false)

pub fill-requires : goal.fill-requires
fill-requires c = record {
  n_in_bounds = omega (arith, tail_room c.args.s.now (c.in_ok-weight.j + 16) c.in_ok-n.n (sym c.in_ok-n.ensures));
  s_len_bound = c.requires.s_len_bound;
  n_in_bounds_2 = simp length-set (omega (arith, tail_room c.args.s.now (c.in_ok-weight.j + 16) c.in_ok-n.n (sym c.in_ok-n.ensures), c.requires.s_len_bound, c.requires.line_words_in_bounds));
}

pub overflow_mul-result : goal.overflow_mul-result
overflow_mul-result c = record { fits = omega (arith, tail_room c.args.s.now (c.in_ok-weight.j + 16) c.in_ok-n.n (sym c.in_ok-n.ensures), c.requires.s_len_bound) }

pub overflow_add-result : goal.overflow_add-result
overflow_add-result c = record { fits = omega (arith, tail_room c.args.s.now (c.in_ok-weight.j + 16) c.in_ok-n.n (sym c.in_ok-n.ensures), c.requires.s_len_bound) }

pub returns : goal.returns
unfolding read_add
returns c =
    let e0 = sym c.in_ok-key.ensures in
    let e1 = sym c.in_ok-weight.ensures in
    let e2 = sym c.hex_ok.ensures ∙ c.if-not-hex_ok.false in
    let e3 = sym c.in_ok-n.ensures in
    let f = int-fits c.args.s.now c.in_ok-key.i 32 c.in_ok-weight.weight c.in_ok-weight.j e1 in
    record {
      value = simp (e0, e1, e2, e3, f);
      words_after = c.fill.ensures ∙ simp (e0, e1, e2, e3, c.hex_value.ensures);
    }
