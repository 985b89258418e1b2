-- `univmon::judge::all_read` meets its contract.
use Prim.Native.Nat.{ℕ}
use Rattle.header.specs.Header.{head_of}
use Rattle.layout.specs.Slices.{lent, view}
use Rattle.words.proofs.Scans.{Scan}
use Rattle.layout.specs.State.{all_layers}
use Rattle.univmon.specs.Updates.{reads_at}
use Rattle.univmon.proofs.judge.all_read.Given as goal

abbrev pub invariant-loop-l : goal.invariant-loop-l
invariant-loop-l l = (w : ℕ) → Scan (λ k i. all_layers (reads_at l.h.shape l.record w) k i (view (lent (head_of l.h l.lens l.flags) l.counters l.norms l.entries l.counts))) l.many l.first l.l
