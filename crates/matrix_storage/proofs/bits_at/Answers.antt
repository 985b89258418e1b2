-- `matrix_storage::bits_at` meets its contract.
use Prim.Native.Nat.{◌/◌, ◌^◌}
use mathlib.Core.Path.{◌∙◌}
use native.Mathlib.Omega.{arith}
use borrow.Author.Rules.{rules}
use Rattle.matrix_storage.proofs.Shifts.{hash_low, low_bits, mask_word, bits_are}
use Rattle.matrix_storage.specs.Bits.{hash_of}
use lib.Pow.{pow_pos}
use Rattle.matrix_storage.proofs.bits_at.Goals as goal

pub overflow_shl-mask : goal.overflow_shl-mask
overflow_shl-mask c = c.requires.1

pub overflow_sub-mask : goal.overflow_sub-mask
overflow_sub-mask c = rw (mask_word c.args.bits c.requires.1) (pow_pos c.args.bits)

pub returns-then-s-bits-lt64 : goal.returns-then-s-bits-lt64
returns-then-s-bits-lt64 c =
    let a = c.args in
    low_bits (a.low / 2 ^ a.s) a.bits c.requires.1 ∙ hash_low a.s a.bits a.high a.low (omega (arith, c.if-s-bits-lt64.true)) (search rules)

pub returns : goal.returns
returns c = let a = c.args in rw c.shifted.ensures (bits_are (hash_of a.high a.low / 2 ^ a.s) a.bits c.requires.1)
