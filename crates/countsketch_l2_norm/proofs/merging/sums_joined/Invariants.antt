-- `countsketch_l2_norm::merging::sums_joined` meets its contract.
use Rattle.countsketch_l2_norm.specs.Merge.{sums}
use Rattle.countsketch_l2_norm.proofs.Merges.{Paired}
use Rattle.words.specs.Num.{all_in}
use Rattle.words.proofs.Raises.{Joined}
use Rattle.countsketch_l2_norm.proofs.merging.sums_joined.Given as goal

abbrev pub invariant-loop-x : goal.invariant-loop-x
invariant-loop-x l = Paired l.x-iterator.a.rest.now l.x-iterator.b.rest.now × Joined l.all (all_in (sums l.xs l.ys)) (all_in (sums l.x-iterator.a.rest.now l.x-iterator.b.rest.now))
