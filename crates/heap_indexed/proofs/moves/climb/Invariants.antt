-- `heap_indexed::moves::climb` meets its contract.
use Prim.Native.Nat.{◌<◌}
use Rattle.heap_moves.specs.Flat.{cands_of}
use Rattle.heap_indexed.specs.Moves.{climb}
use Rattle.heap_indexed.proofs.Steps.{Climbing, Long}
use Rattle.heap_indexed.proofs.moves.climb.Given as goal

abbrev pub invariant-loop-i : goal.invariant-loop-i
invariant-loop-i l = (l.i < l.n) × (Long l.initial.index l.initial.entries l.initial.counts l.index l.entries l.counts × Climbing (climb l.start l.n l.initial.index (cands_of l.initial.entries l.initial.counts) l.start) l.n l.index (cands_of l.entries l.counts) l.i)

abbrev pub decreases-loop-i : goal.decreases-loop-i
decreases-loop-i l = l.i
