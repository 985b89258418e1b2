-- `state_lines::cells::keep_none` meets its contract.
use Rattle.std.proofs.Common.{◌≡◌, ◌-◌, ◌∙◌, sym, arith}
use Rattle.state_lines.proofs.Readings.{zeros_step}
use Rattle.state_lines.proofs.cells.keep_none.Goals as goal

pub loop-i-preserved : goal.loop-i-preserved
loop-i-preserved c = rw c.keep.ensures (sym (zeros_step c.loop-i.cells c.loop-i.i c.args.to c.loop-i-test.true) ∙ c.loop-i.invariant)

pub returns : goal.returns
returns c = let z : c.args.to - c.loop-i.i ≡ 0 = omega arith in rw z at c.loop-i.invariant
