-- What the tests of `sqrt_counted` say of x, and that its pattern and its root's are no NaN's.
use Rattle.std.proofs.Common.{◌≡◌, ℕ, zero, suc, ◌*◌, ◌<◌, Bool, true, false, not, ◌&&◌, ◌||◌, T, eqb, ltb, ℤ, sym, refl, ap, ◌∙◌, subst, lt_irrefl, zero-lt-suc, mul-pos, zero-mul, eqb→eq, ltb→lt, lt→ltb}
use mathlib.Core.Bool.{beq}
use lib.Ieee.{Float, nan, inf, fin, binary64, up, down, lt, eq, fits, is_nan, nan_bits, of_bits, to_bits, odd}
use lib.Ieee.Fits.{up_pos, and_l}
use lib.Ieee.Positive.{first_pos}
use lib.Ieee.Bits.{nan_bits_is}
use Rattle.float64.proofs.Flags.{nought, yes, clash}
use Rattle.float64.specs.Root.{root, root_bits}
use Rattle.float64.specs.RootCount.{count_bits, root_count}
use Rattle.float64.proofs.Patterns.{Pattern, pattern}
use Rattle.float64.proofs.RootPattern.{split, root-read, rounded, root_split}

-- x is finite and above zero
abbrev pub Above : Float → Type 0
Above x = (m : ℕ) × (e : ℤ) × (x ≡ fin false (suc m) e)

digits_pos : (m : ℕ) (e : ℤ) → T (ltb (0 * 1 * down e) (m * up e * 1)) → 0 < m
digits_pos m e t = first_pos m (up e) (first_pos (m * up e) 1 (subst (λ (z : ℕ). z < m * up e * 1) (zero-mul (down e)) (ltb→lt (0 * 1 * down e) (m * up e * 1) t)))

pub above : (x : Float) → lt nought x ≡ true → lt x (inf false) ≡ true → Above x
unfolding lt
above nan p q = absurd (yes p)
above (inf true) p q = absurd (yes p)
above (inf false) p q = absurd (yes q)
above (fin true m e) p q = absurd (yes p)
above (fin false zero e) p q = absurd (lt_irrefl 0 (digits_pos 0 e (yes p)))
above (fin false (suc m) e) p q = (m, e, refl)

pub at_infinity : (x : Float) → lt nought x ≡ true → lt x (inf false) ≡ false → x ≡ root x
unfolding lt root
at_infinity nan p q = refl
at_infinity (inf true) p q = absurd (yes p)
at_infinity (inf false) p q = refl
at_infinity (fin s m e) p q = absurd (clash q tt)

pub at_zero : (x : Float) → eq x nought ≡ true → x ≡ root x
unfolding eq root
at_zero nan p = refl
at_zero (inf s) p = absurd (yes p)
at_zero (fin s zero e) p = refl
at_zero (fin s (suc m) e) p = absurd (lt_irrefl 0 (subst (λ (z : ℕ). 0 < z) (eqb→eq (suc m * up e * 1) (0 * 1 * down e) (and_l (eqb (suc m * up e * 1) (0 * 1 * down e)) (beq s false || eqb (suc m * up e * 1) 0) (yes p)) ∙ zero-mul (down e)) (mul-pos (mul-pos (zero-lt-suc m) (up_pos e)) (zero-lt-suc 0))))

zero_level : (s : Bool) (a b : ℕ) → a ≡ 0 → b ≡ 0 → T (eqb a b && (s || eqb a 0))
zero_level true a b p q = subst (λ (z : ℕ). T (eqb z b && true)) (sym p) (subst (λ (z : ℕ). T (eqb 0 z && true)) (sym q) tt)
zero_level false a b p q = subst (λ (z : ℕ). T (eqb z b && eqb z 0)) (sym p) (subst (λ (z : ℕ). T (eqb 0 z && true)) (sym q) tt)

is_above : (m : ℕ) (e : ℤ) → T (lt nought (fin false (suc m) e))
unfolding lt
is_above m e = lt→ltb (0 * 1 * down e) (suc m * up e * 1) (subst (λ (z : ℕ). z < suc m * up e * 1) (sym (zero-mul (down e))) (mul-pos (mul-pos (zero-lt-suc m) (up_pos e)) (zero-lt-suc 0)))

pub no_root : (x : Float) → lt nought x ≡ false → eq x nought ≡ false → nan ≡ root x
unfolding lt eq root
no_root nan p q = refl
no_root (inf true) p q = refl
no_root (inf false) p q = absurd (clash p tt)
no_root (fin s zero e) p q = absurd (clash q (zero_level (beq s false) (0 * up e * 1) (0 * 1 * down e) (ap (λ (z : ℕ). z * 1) (zero-mul (up e))) (zero-mul (down e))))
no_root (fin true (suc m) e) p q = refl
no_root (fin false (suc m) e) p q = absurd (clash p (is_above m e))

-- ---- of a value above zero

pub not_nan : (x : Float) → Above x → T (not (is_nan x))
unfolding is_nan
not_nan x a = subst (λ (v : Float). T (not (is_nan v))) (sym a.2) tt

pub pattern_of : (x : Float) → T (fits binary64 x) → Above x → Pattern (to_bits binary64 x)
pattern_of x h a = subst (λ (v : Float). Pattern (to_bits binary64 v)) (sym a.2) (pattern a.0 a.1 (subst (λ (v : Float). T (fits binary64 v)) a.2 h))

odd_plain : (q k : ℕ) → T (not (is_nan (odd 53 false q k 1074)))
unfolding odd is_nan
odd_plain zero k = tt
odd_plain (suc q) k = tt

pub root-not_nan : (b : ℕ) → Pattern b → T (not (nan_bits binary64 (root_bits b)))
root-not_nan b h =
    let s = split b h in
    let v = s.4 in
    subst (λ (z : Bool). T (not z)) (sym (nan_bits_is binary64 (root_bits b)))
    (subst (λ (x : Float). T (not (is_nan x))) (sym (ap (of_bits binary64) (root_split b s.0 s.1 s.2 s.3 v) ∙ root-read s.0 s.1 s.2 v.low v.high v.half v.small)) (odd_plain (rounded s.0 s.1) s.2))

pub root_of : (x : Float) → Above x → of_bits binary64 (root_bits (to_bits binary64 x)) ≡ root x
unfolding root
root_of x a = subst (λ (v : Float). of_bits binary64 (root_bits (to_bits binary64 v)) ≡ root v) (sym a.2) refl

-- ---- the count

pub count_of : (x : Float) → Above x → count_bits (to_bits binary64 x) ≡ root_count x
unfolding root_count
count_of x a = subst (λ (v : Float). count_bits (to_bits binary64 v) ≡ root_count v) (sym a.2) refl

pub count_infinity : (x : Float) → lt x (inf false) ≡ false → 0 ≡ root_count x
unfolding lt root_count
count_infinity nan q = refl
count_infinity (inf s) q = refl
count_infinity (fin s m e) q = absurd (clash q tt)

pub count-not-above : (x : Float) → lt nought x ≡ false → 0 ≡ root_count x
unfolding lt root_count
count-not-above nan p = refl
count-not-above (inf s) p = refl
count-not-above (fin s zero e) p = refl
count-not-above (fin true (suc m) e) p = refl
count-not-above (fin false (suc m) e) p = absurd (clash p (is_above m e))
