-- `countsketch_l2_norm::update::update_weighted_with_hash` meets its contract.
use Rattle.countsketch_l2_norm.proofs.Rows.{Going}
use Rattle.matrix_storage.specs.Bits.{hash_of}
use Rattle.countsketch_l2_norm.proofs.update.update_weighted_with_hash.Given as goal

abbrev pub invariant-loop-r : goal.invariant-loop-r
invariant-loop-r l = Going l.rows l.cols (hash_of l.high l.low) l.weight l.initial.counters l.initial.norms l.counters l.norms l.r
