-- One layer of the recursion, on the sum of the layer below it.
use Rattle.std.specs.Prelude.{Bool, cond, Float}
use Rattle.std.specs.Float.{binary64}
use Rattle.std.specs.Float.Ieee.{add, mul}
use Rattle.float64.specs.Values.{two}

-- "The standard sum at the last layer is g summed over its candidates; at each layer l above, it is twice the sum below, plus .."
unfoldable pub joined_sums : Bool → Float → Float → Float
joined_sums last below own = cond last own (add binary64 (mul binary64 two below) own)
