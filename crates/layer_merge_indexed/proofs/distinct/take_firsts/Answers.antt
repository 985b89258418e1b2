-- `layer_merge_indexed::distinct::take_firsts` meets its contract.
use Rattle.layer_merge_indexed.proofs.Takes.{take_again, take_done}
use Rattle.layer_merge_indexed.proofs.distinct.take_firsts.Goals as goal

pub loop-i-preserved : goal.loop-i-preserved
loop-i-preserved c =
    let t = c.take_in-k.ensures in
    take_again _ _ _ _ _ _ _ _ _ _ _ _ _ _ _ _ c.loop-i.invariant c.loop-i-test.true c.item_at-w.ensures t.result_after t.apart_2.0 t.apart_2.1

pub returns-clause-result_after : goal.returns-clause-result_after
returns-clause-result_after c = take_done _ _ _ _ _ _ _ _ _ _ _ c.loop-i.invariant c.loop-i-test.false
