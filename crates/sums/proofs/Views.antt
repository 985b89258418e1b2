-- Candidates one place after the other, and the sum over them. Assumes nothing.
use Prim.Native.Nat.{ℕ, zero, suc, ◌+◌, ◌-◌, ◌≤◌, ◌<◌}
use mathlib.Core.Path.{◌≡◌, refl, sym, ap, ◌∙◌}
use mathlib.Core.List.{List, [], ◌∷◌}
use native.Mathlib.Omega.{arith}
use native.Mathlib.Nat.{sub-zero}
use native.Mathlib.Numerals.{add-one}
use lib.ListN.{length}
use lib.Ieee.{Float}
use Rattle.sums.specs.Entries.{Entry}
use Rattle.sums.specs.inner.Spaces.{Space, space, at, entries_in, listed}
use Rattle.sums.specs.Terms.{plus_zero, add_term, sum_over}
use Rattle.sums.specs.declared.Rule.{Rule}

pub view-listed : (s : Space) (i n : ℕ) → entries_in s i n ≡ listed (at s) i n
unfolding entries_in listed
view-listed s i zero = refl
view-listed s i (suc n) = ap (λ (es : List Entry). at s i ∷ es) (view-listed s (suc i) n)

pub length-listed : (f : ℕ → Entry) (i n : ℕ) → length (listed f i n) ≡ n
unfolding listed
length-listed f i zero = refl
length-listed f i (suc n) = ap suc (length-listed f (suc i) n)

-- where a place is left, and where none is
pub listed-step : (f : ℕ → Entry) (i n : ℕ) → i < n → listed f i (n - i) ≡ f i ∷ listed f (i + 1) (n - (i + 1))
unfolding listed
listed-step f i n h = let e : n - i ≡ suc (n - (i + 1)) = omega arith in rw (e, add-one)

pub listed_end : (f : ℕ → Entry) (i n : ℕ) → n ≤ i → listed f i (n - i) ≡ []
unfolding listed
listed_end f i n h = let e : n - i ≡ 0 = omega arith in rw e

-- ---- a loop that sums n entries

pub record Summing (r : Rule) (f : ℕ → Entry) (n : ℕ) (acc : Float) (i : ℕ) : Type 0 where
  pub most : i ≤ n
  pub goes : sum_over r acc (listed f i (n - i)) ≡ sum_over r plus_zero (listed f 0 n)

pub sum-start : (r : Rule) (f : ℕ → Entry) (n : ℕ) → Summing r f n plus_zero 0
sum-start r f n = record { most = omega arith; goes = ap (λ (k : ℕ). sum_over r plus_zero (listed f 0 k)) (sub-zero n) }

pub sum_on : (r : Rule) (f : ℕ → Entry) (n : ℕ) (acc x : Float) (i : ℕ) → Summing r f n acc i → i < n → x ≡ add_term r acc (f i).bottom (f i).count → Summing r f n x (i + 1)
unfolding sum_over
sum_on r f n acc x i s h e =
    record { most = omega arith; goes = ap (λ (y : Float). sum_over r y (listed f (i + 1) (n - (i + 1)))) e ∙ sym (ap (sum_over r acc) (listed-step f i n h)) ∙ s.goes }

pub sum_end : (r : Rule) (f : ℕ → Entry) (n : ℕ) (acc : Float) (i : ℕ) → Summing r f n acc i → n ≤ i → acc ≡ sum_over r plus_zero (listed f 0 n)
unfolding sum_over
sum_end r f n acc i s h = sym (ap (sum_over r acc) (listed_end f i n h)) ∙ s.goes

-- a sum reads no key
pub sum-keys : (r : Rule) (acc : Float) (s : Space) (ks : List ℕ) (i n : ℕ)
    → sum_over r acc (entries_in (space ks s.bottoms s.counts) i n) ≡ sum_over r acc (entries_in s i n)
unfolding sum_over entries_in
sum-keys r acc s ks i zero = refl
sum-keys r acc s ks i (suc n) = sum-keys r (add_term r acc (at s i).bottom (at s i).count) s ks (suc i) n
