-- `heap::seat` meets its contract.
use mir.Facts.{to_z-of_z}
use Rattle.heap.proofs.Steps.{seat-view}
use Rattle.heap.proofs.seat.Goals as goal

pub returns : goal.returns
returns c = seat-view _ _ _ _ _ _ (to_z-of_z c.ranges.v) _ _ c.put_cand.ensures c.bubble_up.ensures
