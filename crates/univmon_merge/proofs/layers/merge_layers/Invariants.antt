-- `univmon_merge::layers::merge_layers` meets its contract.
use Rattle.layout.specs.Slices.{lent}
use Rattle.layout.specs.Lending.{lent_read}
use Rattle.univmon_merge.proofs.Pairings.{Merging, MergeTold}
use Rattle.univmon_merge.proofs.layers.merge_layers.Given as goal

abbrev pub invariant-loop-l : goal.invariant-loop-l
invariant-loop-l l =
    Merging (lent l.initial.header l.initial.counters l.initial.norms l.initial.entries l.initial.counts) (lent_read l.other) l.many (lent l.header l.counters l.norms l.entries l.counts) l.l
    × MergeTold (lent l.initial.header l.initial.counters l.initial.norms l.initial.entries l.initial.counts) (lent_read l.other) l.many l.initial.list l.list l.l
