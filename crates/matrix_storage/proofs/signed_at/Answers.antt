-- `matrix_storage::signed_at` meets its contract.
use Prim.Native.Nat.{◌-◌, ◌/◌, ◌^◌}
use native.Mathlib.Omega.{arith}
use Rattle.matrix_storage.proofs.Cells.{fits_twice, fits_sign, sign-is, abs-signed}
use Rattle.matrix_storage.specs.Bits.{hash_of, signed}
use Rattle.words.proofs.Signed.{back, fits}
use Rattle.matrix_storage.proofs.signed_at.Goals as goal

pub overflow_mul-sign : goal.overflow_mul-sign
overflow_mul-sign c = let a = c.args in rw c.sign_bit-bit.ensures (fits_twice (hash_of a.high a.low / 2 ^ (127 - a.row)))

pub overflow_sub-sign : goal.overflow_sub-sign
overflow_sub-sign c = let a = c.args in rw c.sign_bit-bit.ensures (fits_sign (hash_of a.high a.low / 2 ^ (127 - a.row)))

pub overflow_mul-result : goal.overflow_mul-result
overflow_mul-result c =
    let a = c.args in
    let h = hash_of a.high a.low in
    rw (c.sign_bit-bit.ensures, back a.v (omega (arith, c.requires.v_bound)), sign-is h a.row a.v) (fits (signed h a.row a.v) (omega (arith, abs-signed h a.row a.v, c.requires.v_bound)))

pub returns : goal.returns
returns c =
    let a = c.args in
    let h = hash_of a.high a.low in
    rw (c.sign_bit-bit.ensures, back a.v (omega (arith, c.requires.v_bound)), sign-is h a.row a.v) (back (signed h a.row a.v) (omega (arith, abs-signed h a.row a.v, c.requires.v_bound)))
