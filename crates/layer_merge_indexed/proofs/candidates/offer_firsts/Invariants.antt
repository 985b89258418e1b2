-- `layer_merge_indexed::candidates::offer_firsts` meets its contract.
use Rattle.layer_merge_indexed.proofs.Offerings.{OfferInv}
use Rattle.layer_merge_indexed.proofs.candidates.offer_firsts.Given as goal

abbrev pub invariant-loop-i : goal.invariant-loop-i
invariant-loop-i l = OfferInv l.d l.counters l.source l.n l.initial.index l.initial.entries l.initial.counts l.initial.list l.index l.entries l.counts l.list l.g l.i
