-- `heap_index::checking::entries_ok` meets its contract.
use Prim.Native.Nat.{ℕ}
use Rattle.heap_moves.specs.Flat.{cands_of}
use Rattle.heap_index.specs.Index.{entries_ok}
use Rattle.words.proofs.Scans.{Scan}
use Rattle.heap_index.proofs.checking.entries_ok.Given as goal

abbrev pub invariant-loop-i : goal.invariant-loop-i
invariant-loop-i l = Scan (λ (k j : ℕ). entries_ok k l.index l.n (cands_of l.entries l.counts) j) l.n 0 l.i
