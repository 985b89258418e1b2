-- `panel_lines::split::take_line` meets its contract.
use Prim.Native.Nat.{◌≤◌}
use mathlib.Core.Path.{◌≡◌, refl, sym, ◌∙◌}
use lib.ListN.{length, take}
use native.Mathlib.Omega.{arith}
use Rattle.panel_lines.proofs.Bytes.{step_more, step_line, step_end}
use Rattle.panel_lines.proofs.split.take_line.Goals as goal

pub loop-i-init : goal.loop-i-init
loop-i-init c = (c.requires.held_le_most_held, refl)

pub returns-then-b-eq10 : goal.returns-then-b-eq10
returns-then-b-eq10 c = record {
  held_le_most_held_2 = (c.loop-i.invariant.0, (omega arith, (omega arith, c.loop-i.auto.line)));
  ended_after = sym (step_line c.args.chunk.now (take c.loop-i.n c.loop-i.line) c.loop-i.i c.loop-i-test.true c.if-b-eq10.true) ∙ c.loop-i.invariant.1;
}

pub loop-i-preserved : goal.loop-i-preserved
loop-i-preserved c = (c.keep-n.ensures.upper_bound.0, rw c.keep-n.ensures.line_after (sym (step_more c.args.chunk.now (take c.loop-i.n c.loop-i.line) c.loop-i.i c.loop-i-test.true c.if-b-eq10.false) ∙ c.loop-i.invariant.1))

pub returns : goal.returns
returns c =
    let e : c.loop-i.i ≡ length c.args.chunk.now = omega arith in
    let n : c.args.at ≤ length c.args.chunk.now = c.requires.at_in_bounds in
    record {
      held_le_most_held_2 = (c.loop-i.invariant.0, (omega arith, (omega arith, c.loop-i.auto.line)));
      ended_after = rw e at (sym (step_end c.args.chunk.now (take c.loop-i.n c.loop-i.line) c.loop-i.i c.loop-i-test.false) ∙ c.loop-i.invariant.1);
    }
