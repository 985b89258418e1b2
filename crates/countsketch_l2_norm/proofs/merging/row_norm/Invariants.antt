-- `countsketch_l2_norm::merging::row_norm` meets its contract.
use Prim.Native.Nat.{◌*◌, ◌≤◌}
use mathlib.Core.Path.{◌≡◌}
use Rattle.countsketch_l2_norm.specs.Merge.{squares_from}
use Rattle.words.specs.Num.{square_cap}
use Rattle.words.specs.Wide.{value_of}
use Rattle.countsketch_l2_norm.proofs.merging.row_norm.Given as goal

abbrev pub invariant-loop-x : goal.invariant-loop-x
invariant-loop-x l = (value_of l.acc ≡ squares_from (l.r * l.cols) l.x-index l.counters) × (value_of l.acc ≤ l.x-index * square_cap)
