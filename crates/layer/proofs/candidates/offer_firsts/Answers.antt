-- `layer::candidates::offer_firsts` meets its contract.
use native.Mathlib.Omega.{arith}
use Rattle.layer.proofs.Gathers.{gather-holds, gather_again, gather_done}
use Rattle.layer.proofs.candidates.offer_firsts.Goals as goal

pub loop-i-init : goal.loop-i-init
loop-i-init c = gather-holds _ _ _ _ _ _ _ _ _ _ c.requires.sofar.used

pub loop-i-preserved : goal.loop-i-preserved
loop-i-preserved c = gather_again _ _ _ _ _ _ _ _ _ _ _ _ _ _ _ _ _ _ _ c.loop-i.invariant c.loop-i-test.true c.offer_first-g.ensures

pub returns : goal.returns
returns c =
    let v = c.loop-i.invariant in
    (gather_done _ _ _ _ _ _ _ _ _ _ _ _ _ _ _ v c.loop-i-test.false, record { used = v.used; few = omega (arith, v.few, c.loop-i.auto.i-end) })
