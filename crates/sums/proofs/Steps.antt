-- The standard sum as a loop has it: from the last layer up. Assumes nothing.
use Prim.Native.Nat.{ℕ, zero, suc, ◌-◌, ◌≤◌, ◌<◌}
use mathlib.Core.Path.{◌≡◌, refl, sym, ap, ◌∙◌}
use mathlib.Core.Bool.{Bool, true, false}
use mathlib.Core.List.{List}
use native.Mathlib.Omega.{arith}
use lib.IntN.{pos}
use lib.Dec.{eqb}
use lib.Ieee.{Float}
use borrow.Author.Tests.{eq-eqb, ne_eqb, eqb-true, eqb-false}
use Rattle.sums.specs.Entries.{Entry}
use Rattle.sums.specs.Terms.{plus_zero, sum_over}
use Rattle.sums.specs.Layers.{rule_at, g_sum, standard_sum}
use Rattle.sums.specs.inner.Up.{joined_sums}
use Rattle.sums.specs.declared.G.{G}

-- the last layer is the one with none below it
pub last_is : (l n : ℕ) → l ≤ n → eqb l n ≡ eqb (n - l) 0
last_is l n h = go (eqb l n) refl
  where
    go : (b : Bool) → eqb l n ≡ b → b ≡ eqb (n - l) 0
    go true e = sym (eq-eqb (n - l) 0 (omega (arith, eqb-true l n e)))
    go false e = sym (ne_eqb (n - l) 0 (λ z. eqb-false l n e (omega (arith, z))))

-- the sum at layer l, with k layers summed; nothing is summed below the last layer
unfoldable pub summed : G → Bool → (ℕ → List Entry) → ℕ → ℕ → Float
summed g every own zero l = plus_zero
summed g every own (suc k) l = g_sum g every (λ k l. pos 0) (λ k l. own l) k l

std_step : (g : G) (every : Bool) (own : ℕ → List Entry) (k l : ℕ) (last : Bool) → last ≡ eqb k 0
    → joined_sums last (summed g every own k (suc l)) (sum_over (rule_at g every (pos 0) last l) plus_zero (own l)) ≡ summed g every own (suc k) l
unfolding summed g_sum joined_sums
std_step g every own zero l last e = rw e
std_step g every own (suc k) l last e = rw (e ∙ ne_eqb (suc k) 0 (λ z. omega (arith, z)))

-- one turn of a loop that counts l down from n
pub std_turn : (g : G) (every : Bool) (own : ℕ → List Entry) (n l : ℕ) (y : Float) → 0 < l → l ≤ n → y ≡ summed g every own (n - l) l
    → joined_sums (eqb l n) y (sum_over (record { g = g; every = every; threshold = pos 0; last = eqb l n; bit = l }) plus_zero (own (l - 1))) ≡ summed g every own (n - (l - 1)) (l - 1)
std_turn g every own n zero y h k e = absurd (omega arith)
std_turn g every own n (suc m) y h k e =
    let z : suc m - 1 ≡ m = omega arith in
    let q : n - m ≡ suc (n - suc m) = omega arith in
    rw (e, z, q) (std_step g every own (n - suc m) m (eqb (suc m) n) (last_is (suc m) n k))

pub std_start : (g : G) (every : Bool) (own : ℕ → List Entry) (n : ℕ) → plus_zero ≡ summed g every own (n - n) n
unfolding summed
std_start g every own n = let e : n - n ≡ 0 = omega arith in rw e

pub std_end : (g : G) (every : Bool) (own : ℕ → List Entry) (n : ℕ) → 0 < n → summed g every own n 0 ≡ standard_sum g every own n
unfolding summed standard_sum
std_end g every own zero h = absurd (omega arith)
std_end g every own (suc k) h = let z : suc k - 1 ≡ k = omega arith in ap (λ (j : ℕ). g_sum g every (λ k l. pos 0) (λ k l. own l) j 0) (sym z)
