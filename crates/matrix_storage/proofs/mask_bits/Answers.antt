-- `matrix_storage::mask_bits` meets its contract.
use native.Mathlib.Omega.{arith}
use borrow.Author.Rules.{rules}
use Rattle.matrix_storage.proofs.Log2.{top, mask_power, mask_other}
use Rattle.matrix_storage.proofs.mask_bits.Goals as goal

pub overflow_cast-floor : goal.overflow_cast-floor
overflow_cast-floor c = let n = c.args.cols in record { fits = omega (arith, (top n c.requires (search rules)).zeros) }

pub overflow_sub-floor : goal.overflow_sub-floor
overflow_sub-floor c = let n = c.args.cols in omega (arith, (top n c.requires (search rules)).zeros)

pub returns-then-n-eq1 : goal.returns-then-n-eq1
returns-then-n-eq1 c = mask_power c.args.cols c.requires (search rules) c.if-n-eq1.true

pub returns : goal.returns
returns c = mask_other c.args.cols c.requires (search rules) c.if-n-eq1.false
