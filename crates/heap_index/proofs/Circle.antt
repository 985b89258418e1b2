-- Places in a circle of m: how far it is from one to another. Assumes nothing.
use mathlib.Core.Path.{◌≡◌, refl, ap}
use mathlib.Core.Logic.{◌≢◌, ◌⊎◌, inl, inr}
use mathlib.Core.Bool.{Bool, true, false, cond}
use Prim.Native.Nat.{ℕ, suc, ◌+◌, ◌-◌, ◌≤◌, ◌<◌}
use native.Mathlib.Omega.{arith}
use native.Mathlib.Decide.{ℕ_discrete}
use lib.Dec.{eqb, leb}
use borrow.Author.Tests.{eq-eqb, ne_eqb, le-leb, leb-true, leb-false}
use Rattle.heap_index.specs.Index.{next_place, dist}

-- forward, or around the end
Way : ℕ → ℕ → ℕ → ℕ → Type 0
Way m a b d = ((a ≤ b) × (d ≡ b - a)) ⊎ ((b < a) × (d ≡ m - a + b))

way : (m a b : ℕ) → Way m a b (dist m a b)
unfolding dist Way
way m a b = go (leb a b) refl
  where
    go : (t : Bool) → leb a b ≡ t → ((a ≤ b) × (cond t (b - a) (m - a + b) ≡ b - a)) ⊎ ((b < a) × (cond t (b - a) (m - a + b) ≡ m - a + b))
    go true e = inl (leb-true a b e, refl)
    go false e = inr (leb-false a b e, refl)

pub dist-lt : (m a b : ℕ) → a < m → b < m → dist m a b < m
unfolding Way
dist-lt m a b ha hb = go (dist m a b) (way m a b)
  where
    go : (d : ℕ) → Way m a b d → d < m
    go d (inl w) = omega arith
    go d (inr w) = omega arith

pub dist_self : (m a : ℕ) → dist m a a ≡ 0
unfolding dist
dist_self m a = rw (le-leb a a (omega arith)) (omega arith)

pub dist-zero : (m a b : ℕ) → a < m → dist m a b ≡ 0 → a ≡ b
unfolding Way
dist-zero m a b h e = go (dist m a b) (way m a b) e
  where
    go : (d : ℕ) → Way m a b d → d ≡ 0 → a ≡ b
    go d (inl w) e = omega arith
    go d (inr w) e = omega arith

pub dist_pos : (m a b : ℕ) → a < m → a ≢ b → 0 < dist m a b
dist_pos m a b h ne = go (ℕ_discrete (dist m a b) 0)
  where
    go : Dec (dist m a b ≡ 0) → 0 < dist m a b
    go (yes e) = absurd (ne (dist-zero m a b h e))
    go (no f) = omega (arith, f)

-- from a by way of b to c: as far as from a to c, or once around
pub around : (m a b c : ℕ) → a < m → b < m → c < m → (dist m a b + dist m b c ≡ dist m a c) ⊎ (dist m a b + dist m b c ≡ dist m a c + m)
unfolding Way
around m a b c ha hb hc = go (dist m a b) (dist m b c) (dist m a c) (way m a b) (way m b c) (way m a c)
  where
    go : (x y z : ℕ) → Way m a b x → Way m b c y → Way m a c z → (x + y ≡ z) ⊎ (x + y ≡ z + m)
    go x y z (inl p) (inl q) (inl r) = inl (omega arith)
    go x y z (inl p) (inl q) (inr r) = inl (omega arith)
    go x y z (inl p) (inr q) (inl r) = inr (omega arith)
    go x y z (inl p) (inr q) (inr r) = inl (omega arith)
    go x y z (inr p) (inl q) (inl r) = inr (omega arith)
    go x y z (inr p) (inl q) (inr r) = inl (omega arith)
    go x y z (inr p) (inr q) (inl r) = inl (omega arith)
    go x y z (inr p) (inr q) (inr r) = inr (omega arith)

pub next-lt : (m p : ℕ) → p < m → next_place m p < m
unfolding next_place
next-lt m p h = go (ℕ_discrete (p + 1) m)
  where
    go : Dec (p + 1 ≡ m) → cond (eqb (p + 1) m) 0 (p + 1) < m
    go (yes e) = rw (eq-eqb (p + 1) m e) (omega arith)
    go (no f) = rw (ne_eqb (p + 1) m f) (omega (arith, f))

-- one step on is one nearer
pub dist-next : (m p q : ℕ) → p < m → q < m → p ≢ q → suc (dist m (next_place m p) q) ≡ dist m p q
unfolding next_place Way
dist-next m p q hp hq ne = go (ℕ_discrete (p + 1) m)
  where
    wrap : (x y : ℕ) → p + 1 ≡ m → Way m 0 q x → Way m p q y → suc x ≡ y
    wrap x y e (inl v) (inl w) = absurd (omega arith)
    wrap x y e (inl v) (inr w) = omega arith
    wrap x y e (inr v) w = absurd (omega arith)

    on : (x y : ℕ) → p + 1 < m → Way m (p + 1) q x → Way m p q y → suc x ≡ y
    on x y e (inl v) (inl w) = omega arith
    on x y e (inl v) (inr w) = absurd (omega arith)
    on x y e (inr v) (inl w) = absurd (omega arith)
    on x y e (inr v) (inr w) = omega arith

    go : Dec (p + 1 ≡ m) → suc (dist m (cond (eqb (p + 1) m) 0 (p + 1)) q) ≡ dist m p q
    go (yes e) = rw (eq-eqb (p + 1) m e) (wrap (dist m 0 q) (dist m p q) e (way m 0 q) (way m p q))
    go (no f) = rw (ne_eqb (p + 1) m f) (on (dist m (p + 1) q) (dist m p q) (omega (arith, f)) (way m (p + 1) q) (way m p q))

-- ---- what closing a gap needs

-- the same way from a: the same place
pub dist_same : (m a b c : ℕ) → a < m → b < m → c < m → dist m a b ≡ dist m a c → b ≡ c
dist_same m a b c ha hb hc e = dist-zero m b c hb (go (around m a b c ha hb hc))
  where
    go : (dist m a b + dist m b c ≡ dist m a c) ⊎ (dist m a b + dist m b c ≡ dist m a c + m) → dist m b c ≡ 0
    go (inl q) = omega (arith, e)
    go (inr q) = omega (arith, e, dist-lt m b c hb hc)

-- the place after p, seen from g, if something lies beyond p
pub dist-after : (m g p t : ℕ) → g < m → p < m → t < m → dist m g p < dist m g t → dist m g (next_place m p) ≡ suc (dist m g p)
dist-after m g p t hg hp ht h = go (around m g (next_place m p) t hg (next-lt m p hp) ht) (around m g p t hg hp ht)
  where
    ne : p ≢ t
    ne e = let z : dist m g p ≡ dist m g t = ap (dist m g) e in omega arith

    step : suc (dist m (next_place m p) t) ≡ dist m p t
    step = dist-next m p t hp ht ne

    go : (dist m g (next_place m p) + dist m (next_place m p) t ≡ dist m g t) ⊎ (dist m g (next_place m p) + dist m (next_place m p) t ≡ dist m g t + m)
        → (dist m g p + dist m p t ≡ dist m g t) ⊎ (dist m g p + dist m p t ≡ dist m g t + m) → dist m g (next_place m p) ≡ suc (dist m g p)
    go (inl a) (inl b) = omega (arith, step)
    go (inr a) (inl b) = absurd (omega (arith, step, dist-lt m g (next_place m p) hg (next-lt m p hp), dist-lt m g p hg hp))
    go (inl a) (inr b) = absurd (omega (arith, h, dist-lt m p t hp ht))
    go (inr a) (inr b) = absurd (omega (arith, h, dist-lt m p t hp ht))

-- the way from h to p passes the gap g
pub passes : (m h g p : ℕ) → h < m → g < m → p < m → g ≢ p → dist m g p ≤ dist m h p → dist m h g < dist m h p
passes m h g p hh hg hp ne l = go (around m h g p hh hg hp)
  where
    go : (dist m h g + dist m g p ≡ dist m h p) ⊎ (dist m h g + dist m g p ≡ dist m h p + m) → dist m h g < dist m h p
    go (inl q) = omega (arith, dist_pos m g p hg ne)
    go (inr q) = absurd (omega (arith, dist-lt m h g hh hg))

-- or does not
pub passes_not : (m h g p : ℕ) → h < m → g < m → p < m → dist m h p < dist m g p → dist m h g < dist m h p → ⊥
passes_not m h g p hh hg hp l k = go (around m h g p hh hg hp)
  where
    go : (dist m h g + dist m g p ≡ dist m h p) ⊎ (dist m h g + dist m g p ≡ dist m h p + m) → ⊥
    go (inl q) = omega (arith, l, k)
    go (inr q) = omega (arith, l, k, dist-lt m g p hg hp)

-- the way from h by the gap g to r passes each place p between g and r
pub passes_on : (m h g p r : ℕ) → h < m → g < m → p < m → r < m → p ≢ r → dist m h g < dist m h r → dist m g p ≤ dist m g r → dist m h p < dist m h r
passes_on m h g p r hh hg hp hr ne l k = go (around m h g p hh hg hp) (around m h g r hh hg hr)
  where
    strict : dist m g p ≢ dist m g r
    strict e = ne (dist_same m g p r hg hp hr e)

    go : (dist m h g + dist m g p ≡ dist m h p) ⊎ (dist m h g + dist m g p ≡ dist m h p + m) → (dist m h g + dist m g r ≡ dist m h r) ⊎ (dist m h g + dist m g r ≡ dist m h r + m)
        → dist m h p < dist m h r
    go (inl a) (inl b) = omega (arith, strict)
    go (inr a) (inl b) = omega (arith, dist-lt m g p hg hp)
    go (inl a) (inr b) = absurd (omega (arith, l, dist-lt m g r hg hr))
    go (inr a) (inr b) = absurd (omega (arith, l, dist-lt m g r hg hr))
