-- `matrix_storage::bits_above` meets its contract.
use Rattle.std.proofs.Common.{arith}
use Rattle.matrix_storage.proofs.Log2.{mask_most}
use Rattle.matrix_storage.proofs.Refusals.{bits_small}
use Rattle.matrix_storage.specs.Bits.{mask_bits}
use Rattle.matrix_storage.proofs.bits_above.Goals as goal

pub overflow_add-result : goal.overflow_add-result
overflow_add-result c = record { fits = omega (arith, c.mask_bits.ensures, mask_most c.args.cols c.requires c.ranges.cols.fits) }

pub overflow_mul-result : goal.overflow_mul-result
overflow_mul-result c = rw c.mask_bits.ensures (record { fits = omega (arith, bits_small (mask_bits c.args.cols) c.args.rows (mask_most c.args.cols c.requires c.ranges.cols.fits) c.if-rows-gt-HASH_BITS.false) })
