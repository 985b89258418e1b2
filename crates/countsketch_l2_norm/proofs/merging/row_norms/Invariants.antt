-- `countsketch_l2_norm::merging::row_norms` meets its contract.
use Rattle.countsketch_l2_norm.proofs.Merges.{Norming}
use Rattle.countsketch_l2_norm.proofs.merging.row_norms.Given as goal

abbrev pub invariant-loop-r : goal.invariant-loop-r
invariant-loop-r l = Norming l.rows l.cols l.counters l.initial.norms l.norms l.r
