-- `countsketch_l2_norm::cells::index_of` meets its contract.
use native.Mathlib.Omega.{arith}
use Rattle.countsketch_l2_norm.proofs.Places.{row_small}
use Rattle.countsketch_l2_norm.proofs.cells.index_of.Goals as goal

pub overflow_mul-result : goal.overflow_mul-result
overflow_mul-result c = let a = c.args in record { fits = omega (arith, row_small a.row a.cols c.requires.0 c.requires.1.0) }

pub overflow_add-result : goal.overflow_add-result
overflow_add-result c = let a = c.args in record { fits = omega (arith, row_small a.row a.cols c.requires.0 c.requires.1.0, c.requires.1.0, c.requires.1.1) }
