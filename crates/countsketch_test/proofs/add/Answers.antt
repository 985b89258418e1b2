-- `countsketch_test::add` meets its contract.
use mathlib.Core.Path.{sym, ◌∙◌}
use Rattle.matrix_storage.specs.Bits.{hash_of}
use Rattle.countsketch_l2_norm.specs.inner.Needs.{sketch_of}
use Rattle.countsketch_l2_norm.proofs.After.{read-cells}
use Rattle.countsketch_test.proofs.add.Goals as goal

-- the counters that are read are in range
pub rows_fit-requires-clause-rows_value : goal.rows_fit-requires-clause-rows_value
rows_fit-requires-clause-rows_value c =
    let a = c.args in
    read-cells a.cols (hash_of a.high a.low) (sketch_of a.counters.now a.norms.now a.rows) a.rows 0 (sym c.rows_read.ensures ∙ c.if-not-rows_read.false)
