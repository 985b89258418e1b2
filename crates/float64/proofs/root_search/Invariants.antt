-- `float64::root_search` meets its contract.
use Rattle.std.proofs.Common.{◌-◌, ◌*◌, ◌^◌}
use Rattle.float64.proofs.DigitLoop.{At}
use Rattle.float64.proofs.Stops.{Counting}
use Rattle.float64.proofs.root_search.Given as goal

abbrev pub invariant-loop-digit : goal.invariant-loop-digit
invariant-loop-digit l = At (l.a * 2 ^ 54) l.twice l.left l.count × Counting (l.a * 2 ^ 54) l.count

abbrev pub decreases-loop-digit : goal.decreases-loop-digit
decreases-loop-digit l = 54 - l.count
