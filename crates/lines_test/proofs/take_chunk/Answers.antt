-- `lines_test::take_chunk` meets its contract.
use mathlib.Core.Path.{refl, sym, ◌∙◌}
use lib.ListN.{take}
use native.Mathlib.Omega.{arith}
use Rattle.panel_lines.proofs.Chunks.{step-ended, step_open, held_end}
use Rattle.lines_test.proofs.take_chunk.Goals as goal

pub loop-at-init : goal.loop-at-init
loop-at-init c = (omega arith, (c.requires.held_le_most_held, (refl, refl)))

pub take_line-s-requires : goal.take_line-s-requires
take_line-s-requires c = record {
  at_in_bounds = c.loop-at.invariant.0;
  held_le_most_held = c.loop-at.invariant.1.0;
  most_held_in_bounds = omega (arith, c.requires.most_held_in_bounds, c.loop-at.invariant.1.1.0);
}

pub loop-at-smaller-then-is_ok : goal.loop-at-smaller-then-is_ok
loop-at-smaller-then-is_ok c = omega (arith, c.take_line-s.ensures.held_le_most_held_2, c.loop-at-test.true)

pub loop-at-preserved-then-is_ok : goal.loop-at-preserved-then-is_ok
loop-at-preserved-then-is_ok c =
    let e = step-ended c.args.chunk.now (take c.loop-at.n c.loop-at.line) _ c.loop-at.at c.take_line-s.result.next (sym (rw c.if-s.true at c.take_line-s.ensures.ended_after)) in
    (c.take_line-s.ensures.held_le_most_held_2.1.1.0, (omega arith, (c.take_line-s.ensures.held_le_most_held_2.1.1.1 ∙ c.loop-at.invariant.1.1.0, sym e.1 ∙ c.loop-at.invariant.1.1.1)))

pub loop-at-smaller-else-is_ok : goal.loop-at-smaller-else-is_ok
loop-at-smaller-else-is_ok c = omega (arith, c.take_line-s.ensures.held_le_most_held_2, c.loop-at-test.true)

pub loop-at-preserved-else-is_ok : goal.loop-at-preserved-else-is_ok
loop-at-preserved-else-is_ok c =
    let e = step-ended c.args.chunk.now (take c.loop-at.n c.loop-at.line) _ c.loop-at.at c.take_line-s.result.next (sym (rw c.if-s.true at c.take_line-s.ensures.ended_after)) in
    (c.take_line-s.ensures.held_le_most_held_2.1.1.0, (omega arith, (c.take_line-s.ensures.held_le_most_held_2.1.1.1 ∙ c.loop-at.invariant.1.1.0, sym e.1 ∙ c.loop-at.invariant.1.1.1)))

pub loop-at-smaller : goal.loop-at-smaller
loop-at-smaller c = omega (arith, c.take_line-s.ensures.held_le_most_held_2, c.loop-at-test.true)

pub loop-at-preserved : goal.loop-at-preserved
loop-at-preserved c =
    let e = step_open c.args.chunk.now (take c.loop-at.n c.loop-at.line) _ c.loop-at.at c.take_line-s.result.next c.loop-at.invariant.0 (sym (rw c.if-s.false at c.take_line-s.ensures.ended_after)) in
    (c.take_line-s.ensures.held_le_most_held_2.1.1.0, (c.take_line-s.ensures.held_le_most_held_2.0, (c.take_line-s.ensures.held_le_most_held_2.1.1.1 ∙ c.loop-at.invariant.1.1.0, held_end c.args.chunk.now _ c.take_line-s.result.next (omega (arith, e.1.1)) ∙ sym e.1.0 ∙ c.loop-at.invariant.1.1.1)))

pub shape_of-line : goal.shape_of-line
shape_of-line c = c.loop-at.invariant.1.1.0

pub returns : goal.returns
returns c = record {
  upper_bound = (c.loop-at.invariant.1.0, c.loop-at.invariant.1.1.0);
  line_after = sym (held_end c.args.chunk.now _ c.loop-at.at c.loop-at-test.false) ∙ c.loop-at.invariant.1.1.1;
}
