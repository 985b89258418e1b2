-- `panel::run` meets its contract.
use Rattle.layout.specs.Slices.{lent}
use Rattle.panel.proofs.Chunked.{Between}
use Rattle.panel.proofs.run.Given as goal

abbrev pub invariant-loop : goal.invariant-loop
invariant-loop l = Between l.initial.chunk l.initial.line (lent l.initial.header l.initial.counters l.initial.norms l.initial.entries l.initial.counts) l.initial.out l.chunk l.line (lent l.header l.counters l.norms l.entries l.counts) l.out l.held
