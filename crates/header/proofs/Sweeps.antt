-- A sweep: many places are tested one by one, and no failure ends it. The result so far and the test of those left make the test of all. Assumes nothing.
use mathlib.Core.Path.{◌≡◌, refl, sym, ap, ◌∙◌}
use mathlib.Core.Bool.{Bool, true, false, ◌&&◌}
use Prim.Native.Nat.{ℕ, zero, suc, ◌+◌, ◌≤◌, ◌<◌}
use native.Mathlib.Omega.{arith}
use native.Mathlib.Numerals.{add-one}

pub and_assoc : (a b c : Bool) → a && b && c ≡ a && (b && c)
and_assoc true b c = refl
and_assoc false b c = refl

pub and-all : (a : Bool) → a && true ≡ a
and-all true = refl
and-all false = refl

-- f k i is the test of k places from i on; ok is the result so far
pub record Sweep (f : ℕ → ℕ → Bool) (many first at : ℕ) (ok : Bool) : Type 0 where
  pub left : ℕ
  pub all : left + at ≡ many + first
  pub goes : ok && f left at ≡ f many first

pub sweep_start : (f : ℕ → ℕ → Bool) (many first : ℕ) → Sweep f many first first true
sweep_start f many first = record { left = many; all = refl; goes = refl }

-- t is the test of the place that the sweep is at
pub sweep_on : (f : ℕ → ℕ → Bool) (many first at : ℕ) (ok t : Bool) → Sweep f many first at ok → at < many + first → ((k : ℕ) → f (suc k) at ≡ t && f k (suc at)) → Sweep f many first (at + 1) (ok && t)
sweep_on f many first at ok t s l step = go s.left s.all s.goes
  where
    go : (n : ℕ) → n + at ≡ many + first → ok && f n at ≡ f many first → Sweep f many first (at + 1) (ok && t)
    go zero q z = absurd (omega arith)
    go (suc n) q z = record { left = n; all = omega arith; goes = rw add-one (and_assoc ok t (f n (suc at)) ∙ ap (λ (b : Bool). ok && b) (sym (step n)) ∙ z) }

pub sweep_end : (f : ℕ → ℕ → Bool) (many first at : ℕ) (ok : Bool) → Sweep f many first at ok → many + first ≤ at → ((i : ℕ) → f 0 i ≡ true) → ok ≡ f many first
sweep_end f many first at ok s l e = go s.left s.all s.goes
  where
    go : (n : ℕ) → n + at ≡ many + first → ok && f n at ≡ f many first → ok ≡ f many first
    go zero q z = sym (ap (λ (b : Bool). ok && b) (e at) ∙ and-all ok) ∙ z
    go (suc n) q z = absurd (omega arith)
