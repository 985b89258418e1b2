-- `univmon::judge::all_ready` meets its contract.
use Rattle.header.specs.Header.{head_of}
use Rattle.layout.specs.Slices.{lent, view}
use Rattle.univmon.specs.inner.Needs.{ready_at}
use Rattle.words.proofs.Scans.{Scan}
use Rattle.layout.specs.State.{all_layers}
use Rattle.univmon.proofs.judge.all_ready.Given as goal

abbrev pub invariant-loop-l : goal.invariant-loop-l
invariant-loop-l l = Scan (λ k i. all_layers (ready_at l.h.shape l.record l.weight) k i (view (lent (head_of l.h l.lens l.flags) l.counters l.norms l.entries l.counts))) l.many l.first l.l
