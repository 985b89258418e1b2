-- `heap_index::checking::places_ok` meets its contract.
use Prim.Native.Nat.{ℕ}
use lib.ListN.{length}
use Rattle.heap_moves.specs.Flat.{cands_of}
use Rattle.heap_index.specs.Index.{places_ok}
use Rattle.words.proofs.Scans.{Scan}
use Rattle.heap_index.proofs.checking.places_ok.Given as goal

abbrev pub invariant-loop-p : goal.invariant-loop-p
invariant-loop-p l = Scan (λ (k j : ℕ). places_ok k l.index l.n (cands_of l.entries l.counts) j) (length l.index) 0 l.p
