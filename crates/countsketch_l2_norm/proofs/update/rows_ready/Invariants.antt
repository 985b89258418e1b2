-- `countsketch_l2_norm::update::rows_ready` meets its contract.
use Rattle.countsketch_l2_norm.proofs.Tried.{Judging}
use Rattle.matrix_storage.specs.Bits.{hash_of}
use Rattle.countsketch_l2_norm.proofs.update.rows_ready.Given as goal

abbrev pub invariant-loop-r : goal.invariant-loop-r
invariant-loop-r l = Judging l.rows l.cols (hash_of l.high l.low) l.weight l.counters l.norms l.r
