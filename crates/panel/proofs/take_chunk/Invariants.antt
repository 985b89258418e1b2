-- `panel::take_chunk` meets its contract.
use Prim.Native.Nat.{◌-◌}
use Rattle.layout.specs.Slices.{lent}
use Rattle.panel.proofs.Chunked.{Chunked}
use Rattle.panel.proofs.take_chunk.Given as goal

abbrev pub invariant-loop-at : goal.invariant-loop-at
invariant-loop-at l =
    Chunked l.chunk l.initial.line l.held (lent l.initial.head l.initial.counters l.initial.norms l.initial.entries l.initial.counts) l.initial.out l.line (lent l.head l.counters l.norms l.entries l.counts) l.out l.at l.end l.n l.len

abbrev pub decreases-loop-at : goal.decreases-loop-at
decreases-loop-at l = l.end - l.at
