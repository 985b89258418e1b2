-- `countsketch_l2_norm::merging::add_all` meets its contract.
use Rattle.countsketch_l2_norm.proofs.Merges.{Adding}
use Rattle.countsketch_l2_norm.proofs.merging.add_all.Given as goal

abbrev pub invariant-loop-i : goal.invariant-loop-i
invariant-loop-i l = Adding l.initial.xs l.ys l.xs l.i
