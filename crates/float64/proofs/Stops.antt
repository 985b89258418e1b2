-- Where the search may stop: by the number alone, by the loop's own values, and the first such place.
use Rattle.std.proofs.Common.{◌≡◌, ℕ, zero, suc, ◌+◌, ◌-◌, ◌*◌, ◌/◌, ◌%◌, ◌^◌, ◌<◌, ◌≤◌, Bool, true, false, cond, eqb, sym, refl, ap, ◌∙◌, subst, inl, inr, ⊎_elim, lt_of_lt_of_le, lt_irrefl, mul-le-mul_right, zero-lt-suc, div-lt_iff_lt-mul, mul-le-mul, le_antisymm, lt_of_mul-lt-mul_right, eq-or-lt_of_le, mul-lt-mul_of_pos_right, mul-pos, div-add-mod', add-one, arith, eqb→eq, pow_pos, pow-add}
use native.Mathlib.Nat.{le_of_sub-eq-zero, mul-div_left, mul-mod_left}
use lib.Dec.{not_T}
use lib.Ieee.Fits.{eq→eqb, and_i, and_l, and_r}
use lib.Ieee.Bits.{is_true, is_false}
use Rattle.float64.specs.Root.{isqrt}
use Rattle.float64.specs.RootCount.{brought, to_bring, remainder, stops, first_stop, worked, FewestElse}
use Rattle.float64.proofs.Flags.{yes, clash}
use Rattle.float64.proofs.WholeRoot.{exact-whole, isqrt-whole, whole_unique}
use Rattle.float64.proofs.Squares.{four_pow, four_pos, square-lt-back}
use Rattle.float64.proofs.DigitLoop.{Leaves, At, weight, Done}

-- n is a square with two zeros behind it for each digit of its root that is not worked out
abbrev pub Ends : ℕ → ℕ → Type 0
Ends n i = (r : ℕ) × (n ≡ r * r * 4 ^ (54 - i))

-- 54 digits are i and the others
pub all_digits : (i : ℕ) → i ≤ 54 → 4 ^ 54 ≡ 4 ^ i * 4 ^ (54 - i)
all_digits i h = ap (λ (x : ℕ). 4 ^ x) (both i h) ∙ pow-add 4 i (54 - i)
  where
    both : (i : ℕ) → i ≤ 54 → 54 ≡ i + (54 - i)
    both i h = omega arith

brought-lt : (n i : ℕ) → i ≤ 54 → n < 4 ^ 54 → n / 4 ^ (54 - i) < 4 ^ i
brought-lt n i l h = (div-lt_iff_lt-mul (four_pos (54 - i))).1 (subst (λ (x : ℕ). n < x) (all_digits i l) h)

pub stops_ends : (n i : ℕ) → i ≤ 54 → n < 4 ^ 54 → stops n i ≡ true → Ends n i
unfolding stops remainder brought to_bring
stops_ends n i l h t =
    let K = 4 ^ (54 - i) in
    let b = n / K in
    let r = isqrt i b in
    let u : b - r * r ≡ 0 = eqb→eq (b - r * r) 0 (and_l (eqb (b - r * r) 0) (eqb (n % K) 0) (yes t)) in
    let z : n % K ≡ 0 = eqb→eq (n % K) 0 (and_r (eqb (b - r * r) 0) (eqb (n % K) 0) (yes t)) in
    let s : b ≡ r * r = le_antisymm (le_of_sub-eq-zero u) (isqrt-whole i b (brought-lt n i l h)).0 in
    (r, sym (div-add-mod' n K) ∙ ap (λ (x : ℕ). b * K + x) z ∙ ap (λ (x : ℕ). x * K + 0) s ∙ none (r * r * K))
  where
    none : (x : ℕ) → x + 0 ≡ x
    none x = omega arith

pub ends_stops : (n i : ℕ) → i ≤ 54 → n < 4 ^ 54 → Ends n i → stops n i ≡ true
unfolding stops remainder brought to_bring
ends_stops n i l h e =
    let K = 4 ^ (54 - i) in
    let r = e.0 in
    let b : n / K ≡ r * r = ap (λ (x : ℕ). x / K) e.1 ∙ mul-div_left (r * r) (four_pos (54 - i)) in
    let z : n % K ≡ 0 = ap (λ (x : ℕ). x % K) e.1 ∙ mul-mod_left (r * r) K in
    let w : r ≡ isqrt i (n / K) = whole_unique (n / K) r (isqrt i (n / K)) (exact-whole (n / K) r b) (isqrt-whole i (n / K) (brought-lt n i l h)) in
    let s = isqrt i (n / K) in
    let u : n / K - s * s ≡ 0 = ap (λ (x : ℕ). n / K - x * x) (sym w) ∙ ap (λ (x : ℕ). x - r * r) b ∙ self (r * r) in
    is_true (stops n i) (and_i (eqb (n / K - s * s) 0) (eqb (n % K) 0) (eq→eqb u) (eq→eqb z))
  where
    self : (x : ℕ) → x - x ≡ 0
    self x = omega arith

-- ---- by the loop's own values

in_digits : (n root left h : ℕ) (v : Leaves n root left h) → n ≡ v.digits.0 * v.digits.0 * (h * h) + left * h
in_digits n root left h v = v.square ∙ ap (λ (x : ℕ). x * x + left * h) v.digits.1 ∙ same v.digits.0
  where
    same : (r : ℕ) → r * h * (r * h) + left * h ≡ r * r * (h * h) + left * h
    same r = omega arith

-- where something is left, n lies between the squares of two numbers of so many digits that are next to each other
between : (n r s left h : ℕ) → 0 < h → n ≡ r * r * (h * h) + suc left * h → suc left < 2 * (r * h) + h → n ≡ s * s * (h * h) → ⊥
between n r s left h p e l q = lt_irrefl n (lt_of_lt_of_le below (subst (λ (x : ℕ). suc r * suc r * (h * h) ≤ x) (sym q) (mul-le-mul_right (h * h) (mul-le-mul next next))))
  where
    above : r * r * (h * h) < s * s * (h * h)
    above = let t : 0 < suc left * h = mul-pos (zero-lt-suc left) p in subst (λ (x : ℕ). r * r * (h * h) < x) q (subst (λ (x : ℕ). r * r * (h * h) < x) (sym e) (omega arith))

    next : suc r ≤ s
    next = square-lt-back r s (lt_of_mul-lt-mul_right (h * h) above)

    below : n < suc r * suc r * (h * h)
    below = let t : suc left * h < (2 * (r * h) + h) * h = mul-lt-mul_of_pos_right l p in omega arith

left-none : (n root left h s : ℕ) → 0 < h → Leaves n root left h → n ≡ s * s * (h * h) → left ≡ 0
left-none n root zero h s p v q = refl
left-none n root (suc left) h s p v q = absurd (between n v.digits.0 s left h p (in_digits n root (suc left) h v) (subst (λ (x : ℕ). suc left < 2 * x + h) v.digits.1 v.below) q)

stop_yes : (n twice left i : ℕ) → n < 4 ^ 54 → At n twice left i → left ≡ 0 → stops n i ≡ true
stop_yes n twice left i h (root, e, v, m) l =
    let r = v.digits.0 in
    ends_stops n i m h (r, in_digits n root left (weight i) v ∙ ap (λ (x : ℕ). r * r * (weight i * weight i) + x * weight i) l ∙ none (r * r * (weight i * weight i)) (weight i) ∙ ap (λ (x : ℕ). r * r * x) (sym (four_pow (54 - i))))
  where
    none : (x w : ℕ) → x + 0 * w ≡ x
    none x w = omega arith

pub stop_no : (n twice left i : ℕ) → n < 4 ^ 54 → At n twice left i → (left ≡ 0 → ⊥) → stops n i ≡ false
stop_no n twice left i h (root, e, v, m) l =
    is_false (stops n i)
    (not_T (stops n i)
    (λ t. let s = stops_ends n i m h (is_true (stops n i) t) in
    l (left-none n root left (weight i) s.0 (pow_pos (54 - i)) v (s.1 ∙ ap (λ (x : ℕ). s.0 * s.0 * x) (four_pow (54 - i))))))

-- ---- the count, as the loop goes

abbrev pub Counting : ℕ → ℕ → Type 0
Counting n i = first_stop (54 - i) n i ≡ worked n

pub count-start : (n : ℕ) → Counting n 0
unfolding worked
count-start n = refl

one_less : (i : ℕ) → i < 54 → 54 - i ≡ suc (54 - suc i)
one_less i h = omega arith

opened : (d n i : ℕ) (b : Bool) → stops n i ≡ b → first_stop (suc d) n i ≡ cond b i (first_stop d n (suc i))
unfolding first_stop
opened d n i b e = ap (λ (x : Bool). cond x i (first_stop d n (suc i))) e

pub count_on : (n i : ℕ) → i < 54 → stops n i ≡ false → Counting n i → Counting n (i + 1)
count_on n i h e c =
    subst (λ (j : ℕ). Counting n j) (sym (add-one i)) (sym (opened (54 - suc i) n i false e) ∙ ap (λ (d : ℕ). first_stop d n i) (sym (one_less i h)) ∙ c)

count_end : (n i : ℕ) → i ≡ 54 → Counting n i → i ≡ worked n
unfolding first_stop
count_end n i e c = e ∙ subst (λ (j : ℕ). Counting n j) e c

count_stop : (n i : ℕ) → i ≤ 54 → stops n i ≡ true → Counting n i → i ≡ worked n
count_stop n i h e c = ⊎_elim (λ q. count_end n i q c) (λ q. sym (opened (54 - suc i) n i true e) ∙ ap (λ (d : ℕ). first_stop d n i) (sym (one_less i q)) ∙ c) (eq-or-lt_of_le h)

pub count_done : (n twice left i : ℕ) → n < 4 ^ 54 → At n twice left i → Done left i → Counting n i → i ≡ worked n
count_done n twice left i h v (inl e) c = count_stop n i v.3 (stop_yes n twice left i h v e) c
count_done n twice left i h v (inr e) c = count_end n i e c

-- ---- the count is the first place

record First (n i d k : ℕ) : Type 0 where
  from : i ≤ k
  to : k ≤ i + d
  stop : k < i + d → stops n k ≡ true
  before : (j : ℕ) → i ≤ j → j < k → stops n j ≡ false

first : (d n i : ℕ) → First n i d (first_stop d n i)
unfolding first_stop
first zero n i =
    record {
      from = omega arith;
      to = omega arith;
      stop = λ h. absurd (omega arith);
      before = λ j h k. absurd (omega arith);
    }
first (suc d) n i = go (stops n i) refl (first d n (suc i))
  where
    go : (t : Bool) → stops n i ≡ t → First n (suc i) d (first_stop d n (suc i)) → First n i (suc d) (cond t i (first_stop d n (suc i)))
    go true e f =
        record {
          from = omega arith;
          to = omega arith;
          stop = λ h. e;
          before = λ j h k. absurd (omega arith);
        }
    go false e f =
        record {
          from = omega (arith, f.from);
          to = omega (arith, f.to);
          stop = λ h. f.stop (omega arith);
          before = λ j h k. ⊎_elim (λ q. subst (λ (z : ℕ). stops n z ≡ false) q e) (λ q. f.before j q k) (eq-or-lt_of_le h);
        }

-- "the fewest after which it may stop so .., else 54"
pub worked_is : (n : ℕ) → FewestElse 54 (λ i. stops n i ≡ true) (worked n)
unfolding worked
worked_is n =
    let f = first 54 n 0 in
    record {
      most = f.to;
      holds = f.stop;
      none = λ i h t. clash (f.before i (omega arith) h) (yes t);
    }
