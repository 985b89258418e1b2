-- `layer_merge_indexed::candidates::offer_firsts` meets its contract.
use Rattle.layer_merge_indexed.proofs.Offerings.{offers_again, offers_done}
use Rattle.layer_merge_indexed.proofs.candidates.offer_firsts.Goals as goal

pub loop-i-preserved : goal.loop-i-preserved
loop-i-preserved c = offers_again _ _ _ _ _ _ _ _ _ _ _ _ _ _ _ _ _ _ _ _ c.loop-i.invariant c.loop-i-test.true c.item_at-w.ensures c.offer_one-g.ensures

pub returns : goal.returns
returns c = offers_done _ _ _ _ _ _ _ _ _ _ _ _ _ _ c.loop-i.invariant c.loop-i-test.false
