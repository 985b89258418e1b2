-- `at_pattern` by its two cases, and a subnormal's digits moved up to 53.
use Rattle.std.proofs.Common.{◌≡◌, ℕ, suc, ◌+◌, ◌-◌, ◌*◌, ◌/◌, ◌%◌, ◌^◌, ◌<◌, ◌≤◌, Bool, true, false, cond, not, T, ltb, sym, refl, subst, le_trans, le_of_eq, lt_of_lt_of_le, lt_of_le_of_lt, mul-le-mul_right, mul-lt-mul_of_pos_right, lt_of_not-le, not-le_of_lt, arith, lit≤, lt→ltb, pow_pos, pow_mono, pow-add}
use lib.Arith.{le→nltb}
use lib.Count.{count_leading_zeros, leading_top}
use Rattle.float64.specs.Root.{at_pattern}

abbrev pub zeros : ℕ → ℕ
zeros b = count_leading_zeros 64 b

abbrev pub Moved : ℕ → ℕ → Type 0
Moved b z = (12 ≤ z) × (z ≤ 63) × (2 ^ 52 ≤ b * 2 ^ (z - 11)) × (b * 2 ^ (z - 11) < 2 ^ 53)

from_top : (b z j : ℕ) → b < 2 ^ 52 → z + suc j ≡ 64 → 2 ^ j ≤ b → b < 2 ^ suc j → Moved b z
from_top b z j h e lo hi =
    let j_lt : j < 52 = lt_of_not-le (λ (g : 52 ≤ j). not-le_of_lt (lt_of_le_of_lt lo h) (pow_mono g)) in
    let s : j + (z - 11) ≡ 52 = omega arith in
    let s' : suc j + (z - 11) ≡ 53 = omega arith in (
      omega arith,
      omega arith,
      subst (λ (x : ℕ). 2 ^ x ≤ b * 2 ^ (z - 11)) s (le_trans (le_of_eq (pow-add 2 j (z - 11))) (mul-le-mul_right (2 ^ (z - 11)) lo)),
      subst (λ (x : ℕ). b * 2 ^ (z - 11) < 2 ^ x) s' (lt_of_lt_of_le (mul-lt-mul_of_pos_right hi (pow_pos (z - 11))) (le_of_eq (sym (pow-add 2 (suc j) (z - 11))))),
    )

pub moved : (b : ℕ) → 0 < b → b < 2 ^ 52 → Moved b (zeros b)
moved b p h =
    let t = leading_top 64 b p (lt_of_lt_of_le h (lit≤ tt)) in
    from_top b (zeros b) t.0 h t.1 t.2 t.3

pick_yes : {X : Type 0} (b : Bool) (x y : X) → T b → cond b x y ≡ x
pick_yes true x y t = refl
pick_yes false x y t = absurd t

pick_no : {X : Type 0} (b : Bool) (x y : X) → T (not b) → cond b x y ≡ y
pick_no true x y t = absurd t
pick_no false x y t = refl

pub pattern_low : (f : ℕ → ℕ → ℕ) (b : ℕ) → b < 2 ^ 52 → at_pattern f b ≡ f (b * 2 ^ (zeros b - 11)) (1035 - zeros b)
unfolding at_pattern
pattern_low f b h = pick_yes (ltb b (2 ^ 52)) _ _ (lt→ltb b (2 ^ 52) h)

pub pattern_high : (f : ℕ → ℕ → ℕ) (b : ℕ) → 2 ^ 52 ≤ b → at_pattern f b ≡ f (b % 2 ^ 52 + 2 ^ 52) (b / 2 ^ 52 + 1023)
unfolding at_pattern
pattern_high f b h = pick_no (ltb b (2 ^ 52)) _ _ (le→nltb b (2 ^ 52) h)
