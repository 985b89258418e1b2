-- `countsketch_l2_norm::update::rows_read` meets its contract.
use Rattle.countsketch_l2_norm.proofs.Scans.{Scan}
use Rattle.countsketch_l2_norm.specs.inner.Needs.{sketch_of}
use Rattle.countsketch_l2_norm.specs.Sketch.{rows_read}
use Rattle.matrix_storage.specs.Bits.{hash_of}
use Rattle.countsketch_l2_norm.proofs.update.rows_read.Given as goal

abbrev pub invariant-loop-r : goal.invariant-loop-r
invariant-loop-r l = Scan (rows_read l.cols (hash_of l.high l.low) (sketch_of l.counters l.norms l.rows)) l.rows l.r
