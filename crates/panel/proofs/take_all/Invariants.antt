-- `panel::take_all` meets its contract.
use Prim.Native.Nat.{◌-◌}
use lib.ListN.{length}
use Rattle.layout.specs.Slices.{lent}
use Rattle.panel.proofs.Chunked.{Parted}
use Rattle.panel.proofs.take_all.Given as goal

abbrev pub invariant-loop-from : goal.invariant-loop-from
invariant-loop-from l =
    Parted l.chunk l.initial.line l.held (lent l.initial.head l.initial.counters l.initial.norms l.initial.entries l.initial.counts) l.initial.out l.line (lent l.head l.counters l.norms l.entries l.counts) l.out l.from l.n

abbrev pub decreases-loop-from : goal.decreases-loop-from
decreases-loop-from l = length l.chunk - l.from
