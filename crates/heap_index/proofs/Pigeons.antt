-- More places than numbers: one is empty. Assumes nothing.
use mathlib.Core.Path.{◌≡◌, sym, ap, ◌∙◌}
use mathlib.Core.Logic.{◌≢◌, ◌⊎◌, inl, inr}
use mathlib.Core.Bool.{cond}
use Prim.Native.Nat.{ℕ, zero, suc, ◌-◌, ◌≤◌, ◌<◌}
use native.Mathlib.Omega.{arith}
use native.Mathlib.Decide.{ℕ_discrete}
use lib.Dec.{eqb}
use borrow.Author.Tests.{eq-eqb, ne_eqb}

-- one of the first m has the value v, or none has
search_value : (f : ℕ → ℕ) (v m : ℕ) → ((p : ℕ) × (p < m) × (f p ≡ v)) ⊎ ((p : ℕ) → p < m → f p ≢ v)
search_value f v zero = inr (λ p h. absurd (omega arith))
search_value f v (suc m) = go (search_value f v m) (ℕ_discrete (f m) v)
  where
    go : ((p : ℕ) × (p < m) × (f p ≡ v)) ⊎ ((p : ℕ) → p < m → f p ≢ v) → Dec (f m ≡ v) → ((p : ℕ) × (p < suc m) × (f p ≡ v)) ⊎ ((p : ℕ) → p < suc m → f p ≢ v)
    go (inl s) d = inl (s.0, omega arith, s.2)
    go (inr s) (yes e) = inl (m, omega arith, e)
    go (inr s) (no n) = inr (λ p h. last p h (ℕ_discrete p m))
      where
        last : (p : ℕ) → p < suc m → Dec (p ≡ m) → f p ≢ v
        last p h (yes q) = λ e. n (sym (ap f q) ∙ e)
        last p h (no q) = s p (omega (arith, q))

-- the value v is taken out of f, whose last value comes into its place
without : (ℕ → ℕ) → ℕ → ℕ → ℕ → ℕ
without f p l q = cond (eqb q p) (f l) (f q)

pub pigeons : (n : ℕ) (f : ℕ → ℕ) (m : ℕ) → n < m → ((p : ℕ) → p < m → f p ≤ n) → ((p q : ℕ) → p < m → q < m → f p ≡ f q → f p ≢ 0 → p ≡ q)
    → (p : ℕ) × (p < m) × (f p ≡ 0)
unfolding without
pigeons zero f m h few once = (0, h, omega (arith, few 0 h))
pigeons (suc n) f m h few once = go (pigeons n) (search_value f (suc n) m)
  where
    Below : Type 0
    Below = (g : ℕ → ℕ) (l : ℕ) → n < l → ((p : ℕ) → p < l → g p ≤ n) → ((p q : ℕ) → p < l → q < l → g p ≡ g q → g p ≢ 0 → p ≡ q) → (p : ℕ) × (p < l) × (g p ≡ 0)

    go : Below → ((p : ℕ) × (p < m) × (f p ≡ suc n)) ⊎ ((p : ℕ) → p < m → f p ≢ suc n) → (p : ℕ) × (p < m) × (f p ≡ 0)
    go ih (inr s) = ih f m (omega arith) (λ p l. omega (arith, few p l, s p l)) once
    go ih (inl s) = back (ih (without f t last) last (omega arith) few' once')
      where
        t : ℕ
        t = s.0

        last : ℕ
        last = m - 1

        -- where the value at p comes from
        from : ℕ → ℕ
        from p = cond (eqb p t) last p

        at : (p : ℕ) → p < last → (r : ℕ) × (r < m) × (r ≢ t) × (without f t last p ≡ f r) × (r ≡ from p)
        at p l = by (ℕ_discrete p t)
          where
            by : Dec (p ≡ t) → (r : ℕ) × (r < m) × (r ≢ t) × (without f t last p ≡ f r) × (r ≡ from p)
            by (yes e) = (last, omega arith, (λ q. omega (arith, q, e, l)), rw (eq-eqb p t e), rw (eq-eqb p t e))
            by (no d) = (p, omega arith, d, rw (ne_eqb p t d), rw (ne_eqb p t d))

        few' : (p : ℕ) → p < last → without f t last p ≤ n
        few' p l =
            let a = at p l in
            let ne : f a.0 ≢ suc n = λ e. a.2 (once a.0 t a.1 s.1 (e ∙ sym s.2) (λ z. omega (arith, z, e))) in
            omega (arith, few a.0 a.1, a.3, ne)

        apart : (p q : ℕ) → p < last → q < last → from p ≡ from q → p ≡ q
        apart p q hp hq e = by (ℕ_discrete p t) (ℕ_discrete q t)
          where
            by : Dec (p ≡ t) → Dec (q ≡ t) → p ≡ q
            by (yes x) (yes y) = x ∙ sym y
            by (yes x) (no y) = let z : last ≡ q = rw (eq-eqb p t x, ne_eqb q t y) at e in absurd (omega (arith, z, hq))
            by (no x) (yes y) = let z : p ≡ last = rw (ne_eqb p t x, eq-eqb q t y) at e in absurd (omega (arith, z, hp))
            by (no x) (no y) = rw (ne_eqb p t x, ne_eqb q t y) at e

        once' : (p q : ℕ) → p < last → q < last → without f t last p ≡ without f t last q → without f t last p ≢ 0 → p ≡ q
        once' p q hp hq e z =
            let a = at p hp in
            let b = at q hq in
            apart p q hp hq (sym a.4 ∙ once a.0 b.0 a.1 b.1 (sym a.3 ∙ e ∙ b.3) (λ y. z (a.3 ∙ y)) ∙ b.4)

        back : (p : ℕ) × (p < last) × (without f t last p ≡ 0) → (p : ℕ) × (p < m) × (f p ≡ 0)
        back r = let a = at r.0 r.1 in (a.0, a.1, sym a.3 ∙ r.2)
