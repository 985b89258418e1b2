-- Texts put into a list from a place on, one after another. Assumes nothing.
use Prim.Native.Nat.{ℕ, zero, suc, ◌+◌, ◌-◌, ◌*◌, ◌/◌, ◌%◌, ◌^◌, ◌≤◌, ◌<◌}
use mathlib.Core.Path.{◌≡◌, refl, sym, ap, ◌∙◌}
use mathlib.Core.List.{List, [], ◌∷◌, ◌++◌}
use borrow.Rule.Slice.PartMut.{put_mid}
use Rattle.std.proofs.lemmas.List.Edits.{sets-eq}
use Rattle.std.proofs.lemmas.Grind.{common_steps}
use lib.ListN.{length, set, length-append}
use lib.Seq.{sets, set_comm}
use native.Mathlib.Omega.{arith}
use native.Mathlib.Numerals.{add-one}
use Rattle.text.specs.Hex.{hex_digits, hex_glyph}

-- the last byte may be stored first
pub sets_last : (l : List ℕ) (i : ℕ) (xs : List ℕ) (d : ℕ) → sets (set l (i + length xs) d) i xs ≡ sets l i (xs ++ (d ∷ []))
sets_last l i [] d = let z : i + 0 ≡ i = omega arith in rw z
sets_last l i (x ∷ xs) d =
    let z : i + suc (length xs) ≡ suc i + length xs = omega arith in
    rw (z, set_comm l (suc i + length xs) i d x (λ e. omega (arith, e))) (sets_last (set l i x) (suc i) xs d)

pub sets_append : {A : Type 0} (l : List A) (i : ℕ) (xs ys : List A) → sets (sets l i xs) (i + length xs) ys ≡ sets l i (xs ++ ys)
sets_append l i [] ys = let z : i + 0 ≡ i = omega arith in rw z
sets_append l i (x ∷ xs) ys = let z : i + suc (length xs) ≡ suc i + length xs = omega arith in rw z (sets_append (set l i x) (suc i) xs ys)

-- two texts, one after the other, from the start of l on
pub joined : (l o p : List ℕ) (i j : ℕ) (a b : List ℕ) → (o ≡ sets l 0 a) × (i ≡ length a) → p ≡ sets o i b → j ≡ i + length b → (p ≡ sets l 0 (a ++ b)) × (j ≡ length (a ++ b))
joined l o p i j a b h e f =
    let z : 0 + length a ≡ length a = omega arith in
    (e ∙ rw (h.0, h.1) (rw z at (sets_append l 0 a b)), f ∙ rw h.1 (sym (length-append a b)))

-- a part of a list that is copied over
pub copied : (l : List ℕ) (a k : ℕ) (w : List ℕ) → k ≡ length w → a + k ≤ length l → put_mid a k l w ≡ sets l a w
copied l a k w e h = rw (sets-eq w l a (omega arith)) (grind (arith, common_steps))

pub hex_put : (o : List ℕ) (i k n : ℕ) → 0 < k → sets o i (hex_digits k n) ≡ sets (set o i (hex_glyph (n / 2 ^ (4 * (k - 1)) % 16))) (i + 1) (hex_digits (k - 1) n)
unfolding hex_digits
hex_put o i zero n h = absurd (omega arith)
hex_put o i (suc k) n h = let z : suc k - 1 ≡ k = omega arith in rw (z, add-one)

pub hex_end : (n : ℕ) → hex_digits 0 n ≡ []
unfolding hex_digits
hex_end n = refl

pub hex_length : (k n : ℕ) → length (hex_digits k n) ≡ k
unfolding hex_digits
hex_length zero n = refl
hex_length (suc k) n = ap suc (hex_length k n)
