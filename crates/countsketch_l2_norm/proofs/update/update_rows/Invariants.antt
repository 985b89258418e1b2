-- `countsketch_l2_norm::update::update_rows` meets its contract.
use Rattle.countsketch_l2_norm.proofs.Filled.{Filled}
use Rattle.matrix_storage.specs.Bits.{hash_of}
use Rattle.countsketch_l2_norm.proofs.update.update_rows.Given as goal

abbrev pub invariant-loop-r : goal.invariant-loop-r
invariant-loop-r l = Filled l.rows l.cols (hash_of l.high l.low) l.weight l.initial.counters l.initial.norms l.buf l.counters l.norms l.r
