-- Signed decimals as texts, and signed numbers in 64 bits. Assumes nothing.
use Prim.Native.Nat.{ℕ, suc, ◌^◌, ◌≤◌, ◌<◌}
use mathlib.Core.Path.{◌≡◌, refl, sym}
use mathlib.Core.Bool.{true, false}
use mathlib.Core.List.{◌∷◌}
use lib.IntN.{ℤ, pos, negsuc, nat_abs}
use lib.ListN.{length}
use lib.Signed.{lt_z}
use native.Mathlib.Omega.{arith}
use borrow.Author.Tests.{ltb-true}
use mir.Syntax.{w64}
use mir.Val.{to_z, of_z}
use mir.Facts.{to_z-of_z}
use Rattle.words.proofs.Bools.{never}
use Rattle.text.specs.Decimals.{dec}
use Rattle.text.specs.Signs.{signed_dec}
use Rattle.text.proofs.DecTexts.{dec-length}

-- a signed number that is kept as bits comes back
pub back-neg : (m : ℕ) → m < 2 ^ 63 → to_z w64 (of_z w64 (negsuc m)) ≡ negsuc m
back-neg m h = to_z-of_z {w = w64} {z = negsuc m} (record { sfits = h })

pub back_pos : (m : ℕ) → m < 2 ^ 63 → to_z w64 (of_z w64 (pos m)) ≡ pos m
back_pos m h = to_z-of_z {w = w64} {z = pos m} (record { sfits = h })

pub below : (z : ℤ) → lt_z z (pos 0) ≡ true → signed_dec z ≡ 45 ∷ dec (nat_abs z)
unfolding signed_dec
below (pos n) e = absurd (omega (arith, ltb-true n 0 e))
below (negsuc n) e = refl

pub not-below : (z : ℤ) → lt_z z (pos 0) ≡ false → signed_dec z ≡ dec (nat_abs z)
unfolding signed_dec
not-below (pos n) e = refl
not-below (negsuc n) e = absurd (never (sym e))

pub signed-length : (z : ℤ) → length (signed_dec z) ≤ 21
unfolding signed_dec
signed-length (pos n) = omega (arith, dec-length n)
signed-length (negsuc n) = omega (arith, dec-length (suc n))
