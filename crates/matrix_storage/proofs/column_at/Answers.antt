-- `matrix_storage::column_at` meets its contract.
use Prim.Native.Nat.{◌*◌, ◌/◌, ◌%◌, ◌^◌}
use mathlib.Core.Path.{◌≡◌}
use native.Mathlib.Omega.{arith}
use Rattle.matrix_storage.proofs.Log2.{mask_within}
use Rattle.matrix_storage.proofs.Cells.{column-low, column-once}
use Rattle.matrix_storage.specs.Bits.{mask_bits, hash_of}
use Rattle.matrix_storage.proofs.column_at.Goals as goal
use Rattle.matrix_storage.proofs.column_at.Goals.{After-bits_at-v}

v-is : (c : After-bits_at-v) → let a = c.args in c.bits_at-v.result ≡ hash_of a.high a.low / 2 ^ (a.row * mask_bits a.cols) % 2 ^ mask_bits a.cols
v-is c = rw c.requires.le_cols.1.1 at c.bits_at-v.ensures

pub overflow_mul-s : goal.overflow_mul-s
overflow_mul-s c = rw c.requires.le_cols.1.1 (record { fits = omega (arith, c.requires.cols_bound) })

pub bits_at-v-requires : goal.bits_at-v-requires
bits_at-v-requires c =
    let p = c.requires.le_cols in
    (rw p.1.1 c.requires.cols_bound, omega (arith, p.1.1, mask_within 32 c.args.cols (omega arith) p.0 p.1.0))

pub returns-then-v-cols : goal.returns-then-v-cols
returns-then-v-cols c = let a = c.args in rw (v-is (goal.at.returns-then-v-cols c).After-bits_at-v) (column-low a.cols (hash_of a.high a.low) a.row (rw (v-is (goal.at.returns-then-v-cols c).After-bits_at-v) at c.if-v-cols.true))

pub returns : goal.returns
returns c = let a = c.args in let p = c.requires.le_cols in rw (v-is (goal.at.returns c).After-bits_at-v) (column-once a.cols (hash_of a.high a.low) a.row p.0 p.1.0 (rw (v-is (goal.at.returns c).After-bits_at-v) at c.if-v-cols.false))
