-- Squares in order, and powers of four.
use Rattle.std.proofs.Common.{◌≡◌, ℕ, zero, suc, ◌*◌, ◌^◌, ◌<◌, ◌≤◌, sym, refl, ap, ◌∙◌, subst, le_of_eq, le_of_suc-le-suc, mul-le-mul, le_antisymm, mul-pos, pow-suc, lt_of_not-le, not-le_of_lt, arith, pow_pos}
use native.Mathlib.Nat.{mul-mul-mul_comm}

pub square-lt : (r s : ℕ) → r < s → r * r < s * s
square-lt r s h = let l : suc r * suc r ≤ s * s = mul-le-mul h h in omega arith

pub square-lt-back : (r s : ℕ) → r * r < s * s → r < s
square-lt-back r s h = lt_of_not-le (λ (g : s ≤ r). not-le_of_lt h (mul-le-mul g g))

square-le-back : (r s : ℕ) → r * r ≤ s * s → r ≤ s
square-le-back r s h = le_of_suc-le-suc (lt_of_not-le (λ (g : suc s ≤ r). not-le_of_lt (square-lt s r g) h))

pub square-back : (r s : ℕ) → r * r ≡ s * s → r ≡ s
square-back r s e = le_antisymm (square-le-back r s (le_of_eq e)) (square-le-back s r (le_of_eq (sym e)))

pub four_pow : (k : ℕ) → 4 ^ k ≡ 2 ^ k * 2 ^ k
four_pow zero = refl
four_pow (suc k) =
    pow-suc 4 k
    ∙ ap (λ (x : ℕ). x * 4) (four_pow k)
    ∙ mul-mul-mul_comm (2 ^ k) (2 ^ k) 2 2
    ∙ ap (λ (x : ℕ). x * (2 ^ k * 2)) (sym (pow-suc 2 k))
    ∙ ap (λ (x : ℕ). 2 ^ suc k * x) (sym (pow-suc 2 k))

pub four_pos : (k : ℕ) → 0 < 4 ^ k
four_pos k = subst (λ (x : ℕ). 0 < x) (sym (four_pow k)) (mul-pos (pow_pos k) (pow_pos k))

pub below_four : (r k : ℕ) → r < 2 ^ k → r * r < 4 ^ k
below_four r k h = subst (λ (x : ℕ). r * r < x) (sym (four_pow k)) (square-lt r (2 ^ k) h)

pub below_four_back : (r k : ℕ) → r * r < 4 ^ k → r < 2 ^ k
below_four_back r k h = square-lt-back r (2 ^ k) (subst (λ (x : ℕ). r * r < x) (four_pow k) h)
