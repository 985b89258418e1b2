-- `heap_index::changes::close_from` meets its contract.
use Prim.Native.Nat.{◌-◌}
use lib.ListN.{length}
use Rattle.heap_moves.specs.Flat.{cands_of}
use Rattle.heap_index.proofs.Walks.{closing, CloseInv}
use Rattle.heap_index.proofs.changes.close_from.Given as goal

abbrev pub invariant-loop : goal.invariant-loop
invariant-loop l = CloseInv (closing l.many l.initial.index l.n (cands_of l.entries l.counts) l.gap l.start) (length l.initial.index) l.n (cands_of l.entries l.counts) l.index l.g l.p (l.many - l.counter)
