-- `heap_index::building::build` meets its contract.
use lib.ListN.{length}
use Rattle.heap_moves.specs.Flat.{cands_of}
use Rattle.heap_index.specs.Index.{build}
use Rattle.heap_index.proofs.Scanned.{Entering}
use Rattle.heap_index.proofs.building.build.Given as goal

abbrev pub invariant-loop-i : goal.invariant-loop-i
invariant-loop-i l = Entering (build (length l.initial.index) l.n (cands_of l.entries l.counts)) (length l.initial.index) l.n l.index (cands_of l.entries l.counts) l.i
