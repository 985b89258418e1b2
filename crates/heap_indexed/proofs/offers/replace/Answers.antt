-- `heap_indexed::offers::replace` meets its contract.
use mir.Facts.{to_z-of_z}
use Rattle.heap_indexed.proofs.Steps.{replace_no, replace_on}
use Rattle.heap_indexed.proofs.offers.replace.Goals as goal

pub returns-then-not-remove : goal.returns-then-not-remove
returns-then-not-remove c =
    let e = c.remove in
    replace_no _ _ _ _ _ _ _ (to_z-of_z c.ranges.v) _ _ e.ensures.value e.ensures.index_after (c.if-not-remove.true)

pub returns : goal.returns
returns c =
    let e = c.remove in
    replace_on _ _ _ _ _ _ _ (to_z-of_z c.ranges.v) _ _ e.ensures.value e.ensures.index_after (c.if-not-remove.false) _ c.come_in.ensures
