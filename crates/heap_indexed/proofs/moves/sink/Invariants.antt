-- `heap_indexed::moves::sink` meets its contract.
use Prim.Native.Nat.{◌-◌}
use Rattle.heap_moves.specs.Flat.{cands_of}
use Rattle.heap_indexed.specs.Moves.{sink}
use Rattle.heap_indexed.proofs.Steps.{Sinking, Long}
use Rattle.heap_indexed.proofs.moves.sink.Given as goal

abbrev pub invariant-loop-n : goal.invariant-loop-n
invariant-loop-n l = Long l.initial.index l.initial.entries l.initial.counts l.index l.entries l.counts × Sinking (sink l.n l.n l.initial.index (cands_of l.initial.entries l.initial.counts) l.start) l.n l.index (cands_of l.entries l.counts) l.i

abbrev pub decreases-loop-n : goal.decreases-loop-n
decreases-loop-n l = l.n - l.i
