-- `heap_index::lookups::look` meets its contract.
use Rattle.heap_moves.specs.Flat.{cands_of}
use Rattle.heap_index.proofs.Walks.{LookInv}
use Rattle.heap_index.proofs.lookups.look.Given as goal

abbrev pub invariant-loop-d : goal.invariant-loop-d
invariant-loop-d l = LookInv l.index l.n (cands_of l.entries l.counts) l.key l.p l.d
