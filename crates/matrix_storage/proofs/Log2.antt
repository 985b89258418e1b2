-- The floor of log2, the count of ones and the leading zeros: what `mask_bits` computes. Assumes nothing.
use mathlib.Core.Path.{◌≡◌, refl, sym, ap, ◌∙◌}
use mathlib.Core.Bool.{Bool, true, false, cond}
use Prim.Native.Nat.{ℕ, zero, suc, ◌+◌, ◌-◌, ◌*◌, ◌/◌, ◌%◌, ◌^◌, ◌≤◌, ◌<◌}
use native.Mathlib.Nat.{pow-suc, lt_of_not-le, le_antisymm}
use native.Mathlib.Omega.{arith}
use native.Mathlib.Numerals.{add-one}
use borrow.Author.Tests.{lt-ltb, le-ltb, eq-eqb, ne_eqb, eqb-false}
use lib.Dec.{eqb}
use lib.Pow.{pow_pos, pow_mono, pow-lt}
use lib.Count.{ones, ones_step, ones_cat, count_leading_zeros, leading_top}
use Rattle.matrix_storage.specs.Bits.{log2_in, log2, mask_bits}

log2_in_of : (d n j : ℕ) → j ≤ d → 2 ^ j ≤ n → n < 2 ^ suc j → log2_in d n ≡ j
unfolding log2_in
log2_in_of zero n zero h l u = refl
log2_in_of zero n (suc j) h l u = absurd (omega arith)
log2_in_of (suc d) n zero h l u = rw (lt-ltb n 2 u)
log2_in_of (suc d) n (suc j) h l u =
    let p : 2 ^ suc j ≡ 2 ^ j * 2 = pow-suc 2 j in
    let p' : 2 ^ suc (suc j) ≡ 2 ^ suc j * 2 = pow-suc 2 (suc j) in
    let q : 0 < 2 ^ j = pow_pos j in
    rw (le-ltb n 2 (omega arith)) (ap suc (log2_in_of d (n / 2) j (omega arith) (omega arith) (omega arith)))

pub log2_of : (n j : ℕ) → j ≤ 64 → 2 ^ j ≤ n → n < 2 ^ suc j → log2 n ≡ j
unfolding log2
log2_of n j h l u = log2_in_of 64 n j h l u

no_ones : (d n : ℕ) → n < 2 ^ d → ones n ≡ 0 → n ≡ 0
no_ones zero n h e = omega arith
no_ones (suc d) n h e =
    let p : 2 ^ suc d ≡ 2 ^ d * 2 = pow-suc 2 d in
    let s : ones n ≡ n % 2 + ones (n / 2) = ones_step n in
    let r : n / 2 ≡ 0 = no_ones d (n / 2) (omega arith) (omega arith) in
    omega arith

top_ones : (n j : ℕ) → 2 ^ j ≤ n → n < 2 ^ suc j → ones n ≡ 1 + ones (n - 2 ^ j)
unfolding ones
top_ones n j l u =
    let p : 2 ^ suc j ≡ 2 ^ j * 2 = pow-suc 2 j in
    let e : n ≡ 1 * 2 ^ j + (n - 2 ^ j) = omega arith in
    ap ones e ∙ ones_cat j 1 (n - 2 ^ j) (omega arith)

one_only : (n j : ℕ) → 2 ^ j ≤ n → n < 2 ^ suc j → ones n ≡ 1 → n ≡ 2 ^ j
one_only n j l u e =
    let p : 2 ^ suc j ≡ 2 ^ j * 2 = pow-suc 2 j in
    let t : ones n ≡ 1 + ones (n - 2 ^ j) = top_ones n j l u in
    let z : n - 2 ^ j ≡ 0 = no_ones j (n - 2 ^ j) (omega arith) (omega arith) in
    omega arith

power_one : (n j : ℕ) → n ≡ 2 ^ j → ones n ≡ 1
unfolding ones
power_one n j e =
    let e' : n ≡ 1 * 2 ^ j + 0 = omega arith in
    ap ones e' ∙ ones_cat j 1 0 (pow_pos j)

-- the place j of n's highest 1, which the leading zeros give: it is log2 n
pub record Top (n : ℕ) : Type 0 where
  pub j : ℕ
  pub zeros : count_leading_zeros 64 n + suc j ≡ 64
  pub lower : 2 ^ j ≤ n
  pub upper : n < 2 ^ suc j
  pub is : log2 n ≡ j

pub top : (n : ℕ) → 1 ≤ n → n < 2 ^ 64 → Top n
top n h u =
    let t = leading_top 64 n h u in
    record { j = t.0; zeros = t.1; lower = t.2; upper = t.3; is = log2_of n t.0 (omega (arith, t.1)) t.2 t.3 }

pub mask_power : (n : ℕ) → 1 ≤ n → n < 2 ^ 64 → ones n ≡ 1 → 63 - count_leading_zeros 64 n ≡ mask_bits n
unfolding mask_bits
mask_power n h u e =
    let t = top n h u in
    let i : n ≡ 2 ^ log2 n = one_only n t.j t.lower t.upper e ∙ ap (λ (k : ℕ). 2 ^ k) (sym t.is) in
    rw (eq-eqb n (2 ^ log2 n) i) (omega (arith, t.zeros, t.is))

pub mask_other : (n : ℕ) → 1 ≤ n → n < 2 ^ 64 → (ones n ≡ 1 → ⊥) → 63 - count_leading_zeros 64 n + 1 ≡ mask_bits n
unfolding mask_bits
mask_other n h u e =
    let t = top n h u in
    rw (ne_eqb n (2 ^ log2 n) (λ i. e (power_one n (log2 n) i))) (omega (arith, t.zeros, t.is))

-- the masked bits are below twice the columns
pub mask_twice : (n : ℕ) → 1 ≤ n → n < 2 ^ 64 → 2 ^ mask_bits n ≤ 2 * n
unfolding mask_bits
mask_twice n h u =
    let t = top n h u in
    let l : 2 ^ log2 n ≤ n = rw t.is t.lower in
    let up : 2 ^ (log2 n + 1) ≤ 2 * n = rw (add-one, pow-suc 2 (log2 n)) (omega arith) in
    either (eqb n (2 ^ log2 n)) (log2 n) (log2 n + 1) (omega (arith, l)) up
  where
    either : (b : Bool) (x y : ℕ) → 2 ^ x ≤ 2 * n → 2 ^ y ≤ 2 * n → 2 ^ cond b x y ≤ 2 * n
    either true x y p q = p
    either false x y p q = q

-- a number up to 2 ^ k has at most k mask bits
pub mask_within : (k n : ℕ) → k < 64 → 1 ≤ n → n ≤ 2 ^ k → mask_bits n ≤ k
unfolding mask_bits
mask_within k n h p u = go (eqb n (2 ^ log2 n)) refl
  where
    t : Top n
    t = top n p (omega (arith, u, pow-lt h))

    go : (b : Bool) → eqb n (2 ^ log2 n) ≡ b → cond b (log2 n) (log2 n + 1) ≤ k
    go true e =
        let q : t.j < suc k = lt_of_not-le (λ (g : suc k ≤ t.j). omega (arith, u, t.lower, pow-lt {i = k} {j = t.j} (omega arith))) in
        omega (arith, t.is, q)
    go false e =
        let q : t.j < k =
        lt_of_not-le (λ (g : k ≤ t.j). eqb-false n (2 ^ log2 n) e (le_antisymm (omega (arith, u, pow_mono g, ap (λ (x : ℕ). 2 ^ x) t.is)) (rw t.is t.lower))) in
        omega (arith, t.is, q)

-- a number of one word has at most 64 mask bits
pub mask_most : (n : ℕ) → 1 ≤ n → n < 2 ^ 64 → mask_bits n ≤ 64
unfolding mask_bits
mask_most n h u = either (eqb n (2 ^ log2 n)) (omega (arith, t.zeros, t.is)) (omega (arith, t.zeros, t.is))
  where
    t : Top n
    t = top n h u

    either : (b : Bool) {x y : ℕ} → x ≤ 64 → y ≤ 64 → cond b x y ≤ 64
    either true p q = p
    either false p q = q
