-- `panel_lines::answer::put_flags` meets its contract.
use mathlib.Core.Path.{sym, ◌∙◌}
use Rattle.panel_lines.proofs.Texts.{flags-step, flags_end}
use Rattle.panel_lines.proofs.answer.put_flags.Goals as goal

pub loop-i-preserved : goal.loop-i-preserved
loop-i-preserved c =
    let e = flags-step c.loop-i.out c.args.flags.now c.args.at c.loop-i.i c.loop-i-test.true in
    rw c.flag_digit.ensures (sym e ∙ c.loop-i.invariant)

pub returns-clause-out_after : goal.returns-clause-out_after
returns-clause-out_after c = rw (flags_end c.args.flags.now c.loop-i.i c.loop-i-test.false) at c.loop-i.invariant
