-- `countsketch_l2_norm::merging::sums_fit` meets its contract.
use mathlib.Core.Path.{◌≡◌}
use Rattle.countsketch_l2_norm.specs.Merge.{sums}
use Rattle.countsketch_l2_norm.proofs.Merges.{Paired}
use Rattle.words.specs.Num.{all_in}
use Rattle.countsketch_l2_norm.proofs.merging.sums_fit.Given as goal

abbrev pub invariant-loop-x : goal.invariant-loop-x
invariant-loop-x l = Paired l.x-iterator.a.rest.now l.x-iterator.b.rest.now × (all_in (sums l.xs l.ys) ≡ all_in (sums l.x-iterator.a.rest.now l.x-iterator.b.rest.now))
