-- `heap_indexed::offers::come_in` meets its contract.
use mir.Facts.{to_z-of_z}
use Rattle.heap_indexed.proofs.Steps.{come_stuck, come_done}
use Rattle.heap_indexed.proofs.offers.come_in.Goals as goal

pub returns-then-not-insert : goal.returns-then-not-insert
returns-then-not-insert c =
    let i = c.insert in
    come_stuck _ _ _ _ _ _ _ (to_z-of_z c.ranges.v) _ c.put_cand.ensures _ _ i.ensures.value i.ensures.index_after (c.if-not-insert.true)

pub returns : goal.returns
returns c =
    let i = c.insert in
    come_done _ _ _ _ _ _ _ (to_z-of_z c.ranges.v) _ c.put_cand.ensures _ _ i.ensures.value i.ensures.index_after (c.if-not-insert.false) _ c.sink.ensures
