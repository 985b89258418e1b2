-- `heap_indexed::offers::seat` meets its contract.
use mathlib.Core.Path.{◌∙◌}
use lib.ListN.{length-set}
use mir.Facts.{to_z-of_z}
use Rattle.heap_indexed.proofs.Steps.{seat_is}
use Rattle.heap_indexed.proofs.offers.seat.Goals as goal

pub shape_of-index : goal.shape_of-index
shape_of-index c = c.climb.auto.index ∙ simp length-set

pub returns : goal.returns
returns c = seat_is _ _ _ _ _ _ _ (to_z-of_z c.ranges.v) _ _ _ c.put_cand.ensures c.climb.ensures
