-- `ranks::blocks::front_other` meets its contract.
use Rattle.std.proofs.Common.{sym, ◌∙◌, arith}
use Rattle.ranks.proofs.Gathers.{missed_eight}
use Rattle.ranks.proofs.blocks.front_other.Goals as goal

pub loop-eight-preserved : goal.loop-eight-preserved
loop-eight-preserved c =
    let m = missed_eight c.args.keys.now c.args.key _ c.loop-eight.invariant (sym c.eight_other.ensures ∙ c.if-not-eight_other.false) in
    λ j h. m j (omega (arith, h))

pub returns : goal.returns
returns c = (omega arith, λ j h. c.loop-eight.invariant j (omega (arith, h, c.loop-eight-test.false)))
