-- Counters that are zero, and flags, as the code tests and writes them. Assumes nothing.
use mathlib.Core.Path.{◌≡◌, refl, sym, ap, ◌∙◌}
use mathlib.Core.Bool.{Bool, true, false, ◌&&◌}
use mathlib.Core.List.{List, [], ◌∷◌}
use lib.Dec.{eqb}
use lib.IntN.{ℤ, pos, negsuc}
use lib.Signed.{le_z}
use native.Mathlib.Omega.{arith}
use borrow.Author.Tests.{leb-true, eqb-true, eqb-false}
use mir.Syntax.{w64}
use mir.Val.{to_z, of_z, SFits, bool_byte}
use mir.Facts.{to_z-of_z}
use Rattle.std.specs.List.{list_all}
use Rattle.words.proofs.Bools.{never, and_left, and_right}
use Rattle.state_forms.specs.Grammar.{is_zero, all_zero, flag_number}

pub zero_is : (z : ℤ) → is_zero z ≡ true → z ≡ pos 0
unfolding is_zero
zero_is (pos n) e = let q : n ≡ 0 = omega (arith, leb-true n 0 (and_left (le_z (pos n) (pos 0)) (le_z (pos 0) (pos n)) e)) in ap pos q
zero_is (negsuc n) e = absurd (never (and_right (le_z (negsuc n) (pos 0)) (le_z (pos 0) (negsuc n)) e))

-- a zero, by its bits
pub zero_bits : (v : ℤ) → SFits w64 v → eqb (of_z w64 v) 0 ≡ is_zero v
unfolding is_zero
zero_bits v f = go (eqb (of_z w64 v) 0) refl (is_zero v) refl
  where
    go : (a : Bool) → eqb (of_z w64 v) 0 ≡ a → (b : Bool) → is_zero v ≡ b → eqb (of_z w64 v) 0 ≡ is_zero v
    go true p true q = p ∙ sym q
    go false p false q = p ∙ sym q
    go true p false q =
        let y : v ≡ pos 0 = sym (to_z-of_z f) ∙ ap (to_z w64) (eqb-true (of_z w64 v) 0 p) in
        absurd (never (sym q ∙ ap is_zero y))
    go false p true q = absurd (eqb-false (of_z w64 v) 0 p (ap (of_z w64) (zero_is v q)))

-- a flag as a number
pub flag_bits : (f : Bool) → bool_byte f ≡ flag_number f
flag_bits true = refl
flag_bits false = refl

-- all zeros, as std tests it
pub zeros-all : (xs : List ℤ) → all_zero xs ≡ list_all is_zero xs
unfolding all_zero
zeros-all [] = refl
zeros-all (x ∷ xs) = ap (λ (b : Bool). is_zero x && b) (zeros-all xs)
