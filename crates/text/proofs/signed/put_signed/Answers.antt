-- `text::signed::put_signed` meets its contract.
use Prim.Native.Nat.{ℕ}
use mathlib.Core.Path.{◌≡◌, ap, ◌∙◌}
use mathlib.Core.Bool.{true, false}
use mathlib.Core.List.{◌∷◌}
use lib.IntN.{ℤ, pos, nat_abs}
use lib.ListN.{length, length-set}
use lib.Signed.{lt_z}
use native.Mathlib.Omega.{arith}
use native.Mathlib.Numerals.{add-one}
use mir.Syntax.{w64}
use mir.Val.{to_z, of_z, SFits}
use mir.Facts.{to_z-of_z}
use Rattle.text.specs.Decimals.{dec}
use Rattle.text.specs.Signs.{signed_dec}
use Rattle.text.proofs.IntTexts.{below, not-below}
use Rattle.text.proofs.signed.put_signed.Goals as goal

-- a number kept as bits, and its size
minus : (x : ℤ) (n : ℕ) → SFits w64 x → n ≡ nat_abs (to_z w64 (of_z w64 x)) → lt_z (to_z w64 (of_z w64 x)) (pos 0) ≡ true → signed_dec x ≡ 45 ∷ dec n
minus x n f e t = rw (rw (to_z-of_z {w = w64} f) at e) (below x (rw (to_z-of_z {w = w64} f) at t))

plus : (x : ℤ) (n : ℕ) → SFits w64 x → n ≡ nat_abs (to_z w64 (of_z w64 x)) → lt_z (to_z w64 (of_z w64 x)) (pos 0) ≡ false → signed_dec x ≡ dec n
plus x n f e t = rw (rw (to_z-of_z {w = w64} f) at e) (not-below x (rw (to_z-of_z {w = w64} f) at t))

pub bounds-out-at : goal.bounds-out-at
bounds-out-at c = omega (arith, ap length (minus _ _ c.ranges.x c.unsigned_abs-n.ensures.value c.if-x-lt0.true), c.requires)

pub put_decimal-requires : goal.put_decimal-requires
put_decimal-requires c = omega (arith, length-set {A = ℕ}, ap length (minus _ _ c.ranges.x c.unsigned_abs-n.ensures.value c.if-x-lt0.true), c.requires)

pub returns-then-x-lt0 : goal.returns-then-x-lt0
returns-then-x-lt0 c =
    let e = minus _ _ c.ranges.x c.unsigned_abs-n.ensures.value c.if-x-lt0.true in
    record { value = omega (arith, c.put_decimal.ensures.value, ap length e); out_after = c.put_decimal.ensures.out_after ∙ rw (e, add-one) }

pub put_decimal-requires-2 : goal.put_decimal-requires-2
put_decimal-requires-2 c = omega (arith, ap length (plus _ _ c.ranges.x c.unsigned_abs-n.ensures.value c.if-x-lt0.false), c.requires)

pub returns : goal.returns
returns c =
    let e = plus _ _ c.ranges.x c.unsigned_abs-n.ensures.value c.if-x-lt0.false in
    record { value = rw e c.put_decimal-2.ensures.value; out_after = c.put_decimal-2.ensures.out_after ∙ rw e }
