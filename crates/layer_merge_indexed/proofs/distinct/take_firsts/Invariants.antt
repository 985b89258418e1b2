-- `layer_merge_indexed::distinct::take_firsts` meets its contract.
use Rattle.layer_merge_indexed.proofs.Takes.{TakeInv}
use Rattle.layer_merge_indexed.proofs.distinct.take_firsts.Given as goal

abbrev pub invariant-loop-i : goal.invariant-loop-i
invariant-loop-i l = TakeInv l.source l.n l.initial.seen l.initial.aside l.initial.zeros l.initial.k l.seen l.aside l.zeros l.k l.i
