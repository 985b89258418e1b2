-- `ranks::marks::mark_first` meets its contract.
use Rattle.ranks.specs.inner.Spots.{Marked}
use Rattle.ranks.proofs.marks.mark_first.Given as goal

abbrev pub invariant-loop-key : goal.invariant-loop-key
invariant-loop-key l = Marked l.marks l.keys l.key-index
