-- `layer::candidates::offer_firsts` meets its contract.
use Rattle.layer.proofs.Gathers.{GatherInv}
use Rattle.layer.proofs.candidates.offer_firsts.Given as goal

abbrev pub invariant-loop-i : goal.invariant-loop-i
invariant-loop-i l = GatherInv l.d l.counters l.before l.m l.source l.n l.initial.entries l.initial.counts l.initial.list l.initial.g l.entries l.counts l.list l.g l.i
