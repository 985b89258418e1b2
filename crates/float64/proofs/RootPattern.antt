-- The 54 digits of a root, and the pattern that is made of them.
use Rattle.std.proofs.Common.{◌≡◌, ℕ, suc, ◌+◌, ◌-◌, ◌*◌, ◌/◌, ◌%◌, ◌^◌, ◌<◌, ◌≤◌, Bool, true, false, not, T, ltb, ◌⊎◌, sym, ap, ◌∙◌, subst, inl, inr, mul_assoc, mul_comm, mul-le-mul, add_comm, eq-or-lt_of_le, lt_of_not-le, mul-one, arith, ltb→lt, nltb→le, pow-add, shl_lt}
use lib.Ieee.{Float, binary64, odd, of_bits}
use lib.Ieee.Exact.{HasValue, odd_sign}
use Rattle.float64.specs.Root.{isqrt, under, root_at, at_pattern, root_bits}
use Rattle.float64.specs.RootCount.{count_at, count_bits}
use Rattle.float64.proofs.WholeRoot.{Whole, isqrt-whole, root-low}
use Rattle.float64.proofs.Patterns.{Pattern, read_normal, read_low}
use Rattle.float64.proofs.PatternDigits.{zeros, moved, pattern_low, pattern_high}

-- the whole root of the number under the root, and that rounded to 53 digits
abbrev pub whole : ℕ → ℕ → ℕ
whole d p = isqrt 54 (under d p)

abbrev pub rounded : ℕ → ℕ → ℕ
rounded d p = (whole d p + 1) / 2

-- n is under the root r: it is even, and r has 54 digits that are not all ones
pub record Under (n r : ℕ) : Type 0 where
  pub root : Whole n r
  pub low : 2 ^ 53 ≤ r
  pub high : r < 2 ^ 54 - 1
  pub even : n % 2 ≡ 0

not-all_ones : (a r : ℕ) → a < 2 ^ 54 - 1 → r * r ≤ a * 2 ^ 54 → r < 2 ^ 54 - 1
not-all_ones a r h l = lt_of_not-le (λ (g : 2 ^ 54 - 1 ≤ r). no (r * r) a (mul-le-mul g g) l h)
  where
    no : (s a : ℕ) → (2 ^ 54 - 1) * (2 ^ 54 - 1) ≤ s → s ≤ a * 2 ^ 54 → a < 2 ^ 54 - 1 → ⊥
    no s a u v w = omega arith

at : (a : ℕ) → 2 ^ 52 ≤ a → a < 2 ^ 54 - 1 → Under (a * 2 ^ 54) (isqrt 54 (a * 2 ^ 54))
at a l h =
    let h' : a < 2 ^ 54 = omega arith in
    let w = isqrt-whole 54 (a * 2 ^ 54) (shl_lt 54 54 h') in
    record { root = w; low = root-low a l h'; high = not-all_ones a (isqrt 54 (a * 2 ^ 54)) h w.0; even = two a }
  where
    two : (a : ℕ) → a * 2 ^ 54 % 2 ≡ 0
    two a = omega arith

pub under_facts : (d p : ℕ) → 2 ^ 52 ≤ d → d < 2 ^ 53 → Under (under d p) (whole d p)
under_facts d p l h = go (eq-or-lt_of_le (bit p))
  where
    bit : (p : ℕ) → p % 2 ≤ 1
    bit p = omega arith

    go : (p % 2 ≡ 1) ⊎ (p % 2 < 1) → Under (under d p) (whole d p)
    go (inl e) =
        let s : d * 2 * 2 ^ 54 ≡ under d p = mul_assoc d 2 (2 ^ 54) ∙ ap (λ (x : ℕ). d * 2 ^ (54 + x)) (sym e) in
        subst (λ (n : ℕ). Under n (isqrt 54 n)) s (at (d * 2) (omega arith) (omega arith))
    go (inr e) =
        let z : p % 2 ≡ 0 = omega arith in
        subst (λ (n : ℕ). Under n (isqrt 54 n)) (ap (λ (x : ℕ). d * 2 ^ (54 + x)) (sym z)) (at d l (omega arith))

pub rounded_low : (d p : ℕ) → 2 ^ 52 ≤ d → d < 2 ^ 53 → 2 ^ 52 ≤ rounded d p
rounded_low d p l h = let u = under_facts d p l h in omega (arith, u.low)

pub rounded_high : (d p : ℕ) → 2 ^ 52 ≤ d → d < 2 ^ 53 → rounded d p < 2 ^ 53
rounded_high d p l h = let u = under_facts d p l h in omega (arith, u.high)

-- ---- what the pattern is read as

pub root-read : (d p k : ℕ) → 2 ^ 52 ≤ d → d < 2 ^ 53 → p / 2 ≡ suc k → k < 2046 → of_bits binary64 (root_at d p) ≡ odd 53 false (rounded d p) k 1074
unfolding root_at
root-read d p k l h e b =
    let q = rounded d p in
    let lo : 2 ^ 52 ≤ q = rounded_low d p l h in
    let hi : q < 2 ^ 53 = rounded_high d p l h in
    ap (λ (x : ℕ). of_bits binary64 (x * 2 ^ 52 + (q - 2 ^ 52))) e
    ∙ read_normal k (q - 2 ^ 52) b (rest q hi)
    ∙ ap (λ (x : ℕ). odd 53 false x k 1074) (back q lo)
  where
    rest : (q : ℕ) → q < 2 ^ 53 → q - 2 ^ 52 < 2 ^ 52
    rest q h = omega arith

    back : (q : ℕ) → 2 ^ 52 ≤ q → 2 ^ 52 + (q - 2 ^ 52) ≡ q
    back q h = omega arith

-- ---- a value above zero, by its pattern

-- b's digits d, its place p and the exponent k of its root: the value is X smallest values, and four times that is the number under the root at the place of the root's square
pub record Split (b d p k X : ℕ) : Type 0 where
  pub low : 2 ^ 52 ≤ d
  pub high : d < 2 ^ 53
  pub half : p / 2 ≡ suc k
  pub small : k < 2046
  pub is : (f : ℕ → ℕ → ℕ) → at_pattern f b ≡ f d p
  pub value : HasValue (of_bits binary64 b) false X (2 ^ 1074)
  pub square : 4 * X * 2 ^ 1074 ≡ under d p * (2 ^ k * 2 ^ k)

-- the exponents
place : (d p k : ℕ) → p / 2 ≡ suc k → under d p * (2 ^ k * 2 ^ k) ≡ d * 2 ^ (52 + p)
place d p k e =
    let s : 54 + p % 2 + (k + k) ≡ 52 + p = omega arith in
    ap (λ (x : ℕ). d * 2 ^ (54 + p % 2) * x) (sym (pow-add 2 k k))
    ∙ mul_assoc d (2 ^ (54 + p % 2)) (2 ^ (k + k))
    ∙ ap (λ (x : ℕ). d * x) (sym (pow-add 2 (54 + p % 2) (k + k)))
    ∙ ap (λ (x : ℕ). d * 2 ^ x) s

four : (y : ℕ) → 4 * y * 2 ^ 1074 ≡ y * 2 ^ 1076
four y = ap (λ (x : ℕ). x * 2 ^ 1074) (mul_comm 4 y) ∙ mul_assoc y 4 (2 ^ 1074)

abbrev Parts : ℕ → Type 0
Parts b = (d : ℕ) × (p : ℕ) × (k : ℕ) × (X : ℕ) × Split b d p k X

split_low : (b : ℕ) → 0 < b → b < 2 ^ 52 → Parts b
split_low b h l =
    let z = zeros b in
    let m = moved b h l in
    let p = 1035 - z in
    let k = p / 2 - 1 in
    let e : p / 2 ≡ suc k = omega (arith, m.1) in
    let a : z - 11 + (52 + p) ≡ 1076 = omega (arith, m.0, m.1) in (
      b * 2 ^ (z - 11),
      p,
      k,
      b,
      record {
        low = m.2;
        high = m.3;
        half = e;
        small = omega (arith, m.1);
        is = λ f. pattern_low f b l;
        value = subst (λ (v : Float). HasValue v false b (2 ^ 1074)) (sym (read_low b l)) (subst (λ (n : ℕ). HasValue (odd 53 false b 0 1074) false n (2 ^ 1074)) (mul-one b) (odd_sign 53 false b 0 1074));
        square = four b ∙ ap (λ (x : ℕ). b * 2 ^ x) (sym a) ∙ ap (λ (x : ℕ). b * x) (pow-add 2 (z - 11) (52 + p)) ∙ sym (mul_assoc b (2 ^ (z - 11)) (2 ^ (52 + p))) ∙ sym (place (b * 2 ^ (z - 11)) p k e);
      },
    )

split_high : (b : ℕ) → 2 ^ 52 ≤ b → b < 2047 * 2 ^ 52 → Parts b
split_high b l h =
    let j = b / 2 ^ 52 - 1 in
    let t = b % 2 ^ 52 in
    let d = t + 2 ^ 52 in
    let p = b / 2 ^ 52 + 1023 in
    let k = p / 2 - 1 in
    let e : p / 2 ≡ suc k = omega arith in
    let J : j < 2046 = omega arith in
    let T' : t < 2 ^ 52 = omega arith in
    let E : b ≡ suc j * 2 ^ 52 + t = omega arith in
    let a : j + 1076 ≡ 52 + p = omega arith in
    let X = d * 2 ^ j in (
      d,
      p,
      k,
      X,
      record {
        low = omega arith;
        high = omega arith;
        half = e;
        small = omega arith;
        is = λ f. pattern_high f b l;
        value = subst (λ (v : Float). HasValue v false X (2 ^ 1074)) (sym (ap (of_bits binary64) E ∙ read_normal j t J T')) (subst (λ (n : ℕ). HasValue (odd 53 false (2 ^ 52 + t) j 1074) false (n * 2 ^ j) (2 ^ 1074)) (add_comm (2 ^ 52) t) (odd_sign 53 false (2 ^ 52 + t) j 1074));
        square = four X ∙ mul_assoc d (2 ^ j) (2 ^ 1076) ∙ ap (λ (x : ℕ). d * x) (sym (pow-add 2 j 1076)) ∙ ap (λ (x : ℕ). d * 2 ^ x) a ∙ sym (place d p k e);
      },
    )

pub split : (b : ℕ) → Pattern b → Parts b
split b h = go (ltb b (2 ^ 52)) (ltb→lt b (2 ^ 52)) (nltb→le b (2 ^ 52))
  where
    go : (t : Bool) → (T t → b < 2 ^ 52) → (T (not t) → 2 ^ 52 ≤ b) → Parts b
    go true y n = split_low b h.0 (y tt)
    go false y n = split_high b (n tt) h.1

pub root_split : (b d p k X : ℕ) → Split b d p k X → root_bits b ≡ root_at d p
unfolding root_bits
root_split b d p k X v = v.is root_at

pub count_split : (b d p k X : ℕ) → Split b d p k X → count_bits b ≡ count_at d p
unfolding count_bits
count_split b d p k X v = v.is count_at
