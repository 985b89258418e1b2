-- `countsketch_l2_norm::update::rows_fit` meets its contract.
use Rattle.countsketch_l2_norm.proofs.Scans.{Scan}
use Rattle.countsketch_l2_norm.specs.Sketch.{rows_fit}
use Rattle.matrix_storage.specs.Bits.{hash_of}
use Rattle.countsketch_l2_norm.proofs.update.rows_fit.Given as goal

abbrev pub invariant-loop-r : goal.invariant-loop-r
invariant-loop-r l = Scan (rows_fit l.cols (hash_of l.high l.low) l.weight l.counters) l.rows l.r
