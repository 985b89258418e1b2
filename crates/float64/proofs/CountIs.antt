-- `root_count` is the fewest digits after which the root ends, or 54, and that is one number only. Where the root is exact, it is the digits from the root's first 1 to its last 1.
use Rattle.std.proofs.Common.{◌≡◌, ℕ, zero, suc, ◌+◌, ◌-◌, ◌*◌, ◌%◌, ◌^◌, ◌<◌, ◌≤◌, true, false, T, sym, refl, ap, ◌∙◌, subst, le_trans, le_of_eq, lt_of_lt_of_le, le_of_suc-le-suc, lt_of_le_of_lt, le_of_lt, lt_irrefl, mul-le-mul_right, zero-lt-suc, mul_assoc, mul_comm, mul-le-mul, le_antisymm, lt_of_mul-lt-mul_right, mul-lt-mul_of_pos_right, pow-suc, lt_of_not-le, zero-mul, not-le_of_lt, arith, pow_pos, pow_mono, pow-add}
use native.Mathlib.Nat.{mul-mul-mul_comm, eq_of_mul-eq-mul_right, pow-le-pow_right}
use lib.Ieee.{Float, nan, inf, fin, binary64, fits, up, to_bits, of_bits}
use lib.Ieee.Bits.{of_bits-to_bits}
use lib.Ieee.Positive.{num, den, den_pos, value→cross}
use lib.Ieee.Exact.{HasValue}
use Rattle.float64.specs.Values.{plain}
use Rattle.float64.specs.Root.{under}
use Rattle.float64.specs.RootCount.{stops, worked, count_at, count_bits, root_count, FewestElse, EndsIn, IsCount}
use Rattle.float64.proofs.Squares.{four_pow, four_pos, below_four, below_four_back, square-back}
use Rattle.float64.proofs.Stops.{Ends, all_digits, stops_ends, ends_stops, worked_is}
use Rattle.float64.proofs.Patterns.{Pattern, pattern}
use Rattle.float64.proofs.RootPattern.{Under, whole, under_facts, split, count_split}

-- ---- the fewest, else n

fewest_of : (n k : ℕ) (P Q : ℕ → Type 0) → ((i : ℕ) → i ≤ n → P i → Q i) → ((i : ℕ) → i ≤ n → Q i → P i) → FewestElse n P k → FewestElse n Q k
fewest_of n k P Q there back f =
    record {
      most = f.most;
      holds = λ h. there k f.most (f.holds h);
      none = λ i h q. f.none i h (back i (le_trans (le_of_lt h) f.most) q);
    }

fewest_least : (n j k : ℕ) (P : ℕ → Type 0) → FewestElse n P j → FewestElse n P k → k ≤ j
fewest_least n j k P u v = le_of_suc-le-suc (lt_of_not-le (λ (g : suc j ≤ k). v.none j g (u.holds (lt_of_lt_of_le g v.most))))

-- ---- from the value to the number under the root, and back

-- x is n times a power of four
abbrev Placed : Float → ℕ → ℕ → ℕ → Type 0
Placed x n s t = num x * 4 ^ s ≡ n * den x * 4 ^ t

-- a root that ends ends within the 54 digits: n has no fewer than 107
ends_within : (n r u v i : ℕ) → 4 ^ 53 ≤ n → i ≤ 54 → r < 2 ^ i → n * 4 ^ u ≡ r * r * 4 ^ v → Ends n i
ends_within n r u v i l h b e = (r * 2 ^ t, eq_of_mul-eq-mul_right (4 ^ u) (four_pos u) n (r * 2 ^ t * (r * 2 ^ t) * 4 ^ (54 - i)) (e ∙ regroup))
  where
    room : u + 53 < v + i
    room =
        lt_of_not-le (λ (g : v + i ≤ u + 53). lt_irrefl (n * 4 ^ u)
        (lt_of_le_of_lt (le_of_eq e)
        (lt_of_lt_of_le (mul-lt-mul_of_pos_right (below_four r i b) (four_pos v))
        (le_trans (le_of_eq (mul_comm (4 ^ i) (4 ^ v) ∙ sym (pow-add 4 v i)))
        (le_trans (pow-le-pow_right {n = 4} (zero-lt-suc 3) g)
        (le_trans (le_of_eq (pow-add 4 u 53 ∙ mul_comm (4 ^ u) (4 ^ 53))) (mul-le-mul_right (4 ^ u) l)))))))

    t : ℕ
    t = v + i - (u + 54)

    sum : v ≡ t + (54 - i) + u
    sum = omega (arith, room)

    -- S, K, U stand for the powers of four of t, 54 - i, u; P for 2 ^ t
    same : (S K U P : ℕ) → S ≡ P * P → r * r * (S * K * U) ≡ r * P * (r * P) * K * U
    same S K U P p = ap (λ (x : ℕ). r * r * (x * K * U)) p ∙ omega arith

    regroup : r * r * 4 ^ v ≡ r * 2 ^ t * (r * 2 ^ t) * 4 ^ (54 - i) * 4 ^ u
    regroup =
        ap (λ (x : ℕ). r * r * 4 ^ x) sum
        ∙ ap (λ (x : ℕ). r * r * x) (pow-add 4 (t + (54 - i)) u ∙ ap (λ (x : ℕ). x * 4 ^ u) (pow-add 4 t (54 - i)))
        ∙ same (4 ^ t) (4 ^ (54 - i)) (4 ^ u) (2 ^ t) (four_pow t)

-- of two ways to say x as a fraction times a power of four
cross : (n c m S K P Q w : ℕ) → n * S ≡ m * c * K → n * P ≡ w * c * Q → m * (K * P) * c ≡ w * (Q * S) * c
cross n c m S K P Q w e f =
    let x : n * S * P ≡ m * c * K * P = ap (λ (z : ℕ). z * P) e in
    let y : n * P * S ≡ w * c * Q * S = ap (λ (z : ℕ). z * S) f in
    omega arith

crossed : (x : Float) (m s t w p q : ℕ) → Placed x m s t → Placed x w p q → m * 4 ^ (t + p) ≡ w * 4 ^ (q + s)
crossed x m s t w p q e f =
    rw (pow-add 4 t p, pow-add 4 q s)
    (eq_of_mul-eq-mul_right (den x) (den_pos x) (m * (4 ^ t * 4 ^ p)) (w * (4 ^ q * 4 ^ s)) (cross (num x) (den x) m (4 ^ s) (4 ^ t) (4 ^ p) (4 ^ q) w e f))

value_ends : (x : Float) (n s t i : ℕ) → 4 ^ 53 ≤ n → Placed x n s t → i ≤ 54 → EndsIn x i → Ends n i
value_ends x n s t i l e h d = ends_within n d.0 (t + d.1) (d.2 + s) i l h d.3 (crossed x n s t (d.0 * d.0) d.1 d.2 e d.4)

ends_value : (x : Float) (n s t i : ℕ) → n < 4 ^ 54 → Placed x n s t → i ≤ 54 → Ends n i → EndsIn x i
ends_value x n s t i b e h d = (d.0, s, 54 - i + t, below_four_back d.0 i small, e ∙ ap (λ (z : ℕ). z * den x * 4 ^ t) d.1 ∙ regroup (4 ^ (54 - i)) (4 ^ t) ∙ ap (λ (z : ℕ). d.0 * d.0 * den x * z) (sym (pow-add 4 (54 - i) t)))
  where
    regroup : (K T' : ℕ) → d.0 * d.0 * K * den x * T' ≡ d.0 * d.0 * den x * (K * T')
    regroup K T' = omega arith

    small : d.0 * d.0 < 4 ^ i
    small = lt_of_mul-lt-mul_right (4 ^ (54 - i)) (lt_of_le_of_lt (le_of_eq (sym d.1)) (subst (λ (z : ℕ). n < z) (all_digits i h) b))

-- the count of a value that is so placed
counted : (x : Float) (n s t : ℕ) → 4 ^ 53 ≤ n → n < 4 ^ 54 → Placed x n s t → IsCount x (worked n)
counted x n s t l b e =
    fewest_of 54 (worked n) (λ i. stops n i ≡ true) (EndsIn x)
    (λ i h p. ends_value x n s t i b e h (stops_ends n i h b p))
    (λ i h q. ends_stops n i h b (value_ends x n s t i l e h q))
    (worked_is n)

-- ---- a value above zero

placed : (x : Float) (n k X : ℕ) → HasValue x false X (2 ^ 1074) → 4 * X * 2 ^ 1074 ≡ n * (2 ^ k * 2 ^ k) → Placed x n 1075 k
placed x n k X v e = go (num x) (den x) (2 ^ 1074) (4 ^ 1075) (4 ^ k) refl (value→cross x X (2 ^ 1074) v) (e ∙ ap (λ (z : ℕ). n * z) (sym (four_pow k)))
  where
    go : (m c B F K : ℕ) → 4 * B * B ≡ F → m * B ≡ X * c → 4 * X * B ≡ n * K → m * F ≡ n * c * K
    go m c B F K f g h =
        let x : m * B * (4 * B) ≡ X * c * (4 * B) = ap (λ (z : ℕ). z * (4 * B)) g in
        let y : 4 * X * B * c ≡ n * K * c = ap (λ (z : ℕ). z * c) h in
        let z : m * (4 * B * B) ≡ m * F = ap (λ (z : ℕ). m * z) f in
        omega arith

-- the number under the root has 107 or 108 digits, so that the first of the root's 54 is a 1
under_low : (n r : ℕ) → Under n r → 4 ^ 53 ≤ n
under_low n r u = le_trans (mul-le-mul u.low u.low) u.root.0

under-high : (n r : ℕ) → Under n r → n < 4 ^ 54
under-high n r u = lt_of_lt_of_le u.root.1 (mul-le-mul (one r u.high) (one r u.high))
  where
    one : (r : ℕ) → r < 2 ^ 54 - 1 → r + 1 ≤ 2 ^ 54
    one r h = omega arith

above_zero : (b : ℕ) → Pattern b → IsCount (of_bits binary64 b) (count_bits b)
unfolding count_at
above_zero b h =
    let s = split b h in
    let d = s.0 in
    let p = s.1 in
    let k = s.2 in
    let v = s.4 in
    let x = of_bits binary64 b in
    let u = under_facts d p v.low v.high in
    subst (λ (j : ℕ). IsCount x j) (sym (count_split b d p k s.3 v)) (counted x (under d p) 1075 k (under_low (under d p) (whole d p) u) (under-high (under d p) (whole d p) u) (placed x (under d p) k s.3 v.value v.square))

-- ---- zero

no_digits : (x : Float) → num x ≡ 0 → IsCount x 0
no_digits x e =
    record {
      most = omega arith;
      holds = λ h. (0, 0, 0, pow_pos 0, ap (λ (z : ℕ). z * 4 ^ 0) e ∙ sym (ap (λ (z : ℕ). z * 4 ^ 0) (zero-mul (den x))));
      none = λ i h d. absurd (omega arith);
    }

-- ---- the laws

pub count-is : (x : Float) → T (fits binary64 x) → T (plain x) → IsCount x (root_count x)
unfolding root_count
count-is nan h p = absurd p
count-is (inf s) h p = absurd p
count-is (fin true m e) h p = absurd p
count-is (fin false zero e) h p = no_digits (fin false zero e) (zero-mul (up e))
count-is (fin false (suc m) e) h p =
    let x = fin false (suc m) e in
    subst (λ (w : Float). IsCount w (count_bits (to_bits binary64 x))) (of_bits-to_bits binary64 x h) (above_zero (to_bits binary64 x) (pattern m e h))

pub count_unique : (x : Float) (j k : ℕ) → IsCount x j → IsCount x k → j ≡ k
count_unique x j k u v = le_antisymm (fewest_least 54 k j (EndsIn x) v u) (fewest_least 54 j k (EndsIn x) u v)

-- ---- an exact root

-- of two numbers that differ by a power of two an odd one is the less
odd_least : (r r' u v : ℕ) → r % 2 ≡ 1 → r * 2 ^ u ≡ r' * 2 ^ v → r ≤ r'
odd_least r r' u v o e = go (v - u) refl
  where
    sum : (d : ℕ) → v - u ≡ suc d → v ≡ suc d + u
    sum d z = omega arith

    none : v - u ≡ 0 → u ≡ u - v + v
    none z = omega arith

    times : (w : ℕ) → 0 < w → r * w ≡ r' → r ≤ r'
    times zero h q = elim h [ ]
    times (suc w) h q = omega arith

    even : (y : ℕ) → r ≡ y * 2 → ⊥
    even y q = omega arith

    -- A, D, U stand for the powers of two of suc d, d, u
    halved : (A D U : ℕ) → A ≡ D * 2 → r' * (A * U) ≡ r' * D * 2 * U
    halved A D U p = ap (λ (x : ℕ). r' * (x * U)) p ∙ omega arith

    go : (d : ℕ) → v - u ≡ d → r ≤ r'
    go zero z =
        times (2 ^ (u - v)) (pow_pos (u - v))
        (eq_of_mul-eq-mul_right (2 ^ v) (pow_pos v) (r * 2 ^ (u - v)) r'
        (mul_assoc r (2 ^ (u - v)) (2 ^ v) ∙ ap (λ (x : ℕ). r * x) (sym (pow-add 2 (u - v) v)) ∙ ap (λ (x : ℕ). r * 2 ^ x) (sym (none z)) ∙ e))
    go (suc d) z =
        absurd (even (r' * 2 ^ d)
        (eq_of_mul-eq-mul_right (2 ^ u) (pow_pos u) r (r' * 2 ^ d * 2)
        (e ∙ ap (λ (x : ℕ). r' * 2 ^ x) (sum d z) ∙ ap (λ (x : ℕ). r' * x) (pow-add 2 (suc d) u) ∙ halved (2 ^ suc d) (2 ^ d) (2 ^ u) (pow-suc 2 d))))

-- r is the odd number that √x is but for a power of two, and has k + 1 digits, from its first 1 to its last 1
pub count-exact : (x : Float) (r p q k : ℕ) → T (fits binary64 x) → T (plain x) → num x * 4 ^ p ≡ r * r * den x * 4 ^ q → r % 2 ≡ 1 → 2 ^ k ≤ r → r < 2 ^ suc k → k < 53 → root_count x ≡ suc k
count-exact x r p q k f c e o l h b = le_antisymm above (lt_of_not-le (λ (g : root_count x ≤ k). not-le_of_lt (lt_of_le_of_lt least (lt_of_lt_of_le d.3 (pow_mono g))) l))
  where
    is : IsCount x (root_count x)
    is = count-is x f c

    above : root_count x ≤ suc k
    above = le_of_suc-le-suc (lt_of_not-le (λ (g : suc (suc k) ≤ root_count x). is.none (suc k) g (r, p, q, h, e)))

    d : EndsIn x (root_count x)
    d = is.holds (omega (arith, above))

    squared : (m u : ℕ) → m * m * 4 ^ u ≡ m * 2 ^ u * (m * 2 ^ u)
    squared m u = ap (λ (z : ℕ). m * m * z) (four_pow u) ∙ mul-mul-mul_comm m m (2 ^ u) (2 ^ u)

    least : r ≤ d.0
    least =
        let u = q + d.1 in
        let v = d.2 + p in
        odd_least r d.0 u v o
        (square-back (r * 2 ^ u) (d.0 * 2 ^ v) (sym (squared r u) ∙ crossed x (r * r) p q (d.0 * d.0) d.1 d.2 e d.4 ∙ squared d.0 v))
