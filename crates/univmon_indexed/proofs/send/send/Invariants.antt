-- `univmon_indexed::send::send` meets its contract.
use Rattle.header.specs.Header.{head_of}
use Rattle.layout.specs.Slices.{lent}
use Rattle.univmon_indexed.proofs.Sending.{Sending}
use Rattle.univmon_indexed.proofs.send.send.Given as goal

abbrev pub invariant-loop-l : goal.invariant-loop-l
invariant-loop-l l = Sending (lent (head_of l.h l.initial.lens l.initial.flags) l.initial.counters l.initial.norms l.initial.entries l.initial.counts) l.initial.index l.record l.weight l.many l.first l.initial.list (lent (head_of l.h l.lens l.flags) l.counters l.norms l.entries l.counts) l.index l.list l.l
