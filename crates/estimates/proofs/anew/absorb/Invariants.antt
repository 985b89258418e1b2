-- `estimates::anew::absorb` meets its contract.
use Rattle.sums.specs.inner.Spaces.{space}
use Rattle.ranks.specs.inner.Spots.{Marked}
use Rattle.estimates.specs.inner.Anew.{entry_at}
use Rattle.estimates.proofs.Places.{Taking}
use Rattle.estimates.proofs.anew.absorb.Given as goal

abbrev pub invariant-loop-i : goal.invariant-loop-i
invariant-loop-i l =
    Taking (entry_at l.layer) l.layer.len l.have (space l.initial.keys l.initial.bottoms l.initial.counts) (space l.keys l.bottoms l.counts) l.len l.i × Marked l.marks l.keys l.len
