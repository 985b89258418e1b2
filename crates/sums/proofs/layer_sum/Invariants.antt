-- `sums::layer_sum` meets its contract.
use Rattle.std.proofs.Common.{[]}
use Rattle.sums.specs.inner.Spaces.{space, at}
use Rattle.sums.proofs.Views.{Summing}
use Rattle.sums.proofs.layer_sum.Given as goal

abbrev pub invariant-loop-i : goal.invariant-loop-i
invariant-loop-i l = Summing l.rule (at (space [] l.bottoms l.counts)) l.n l.acc l.i
