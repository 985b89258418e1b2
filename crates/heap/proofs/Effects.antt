-- What offering a candidate does to the entries and the keys of a table: the four answers.
use mathlib.Core.Path.{◌≡◌, refl, sym, ap, ◌∙◌, subst}
use Prim.Native.Nat.{ℕ, zero, suc, ◌+◌, ◌≤◌, ◌<◌}
use native.Mathlib.Omega.{arith}
use native.Mathlib.Numerals.{add-one}
use native.Mathlib.Decide.{ℕ_discrete}
use mathlib.Core.Bool.{Bool, true, false, cond}
use mathlib.Core.List.{List, [], ◌∷◌}
use lib.ListN.{length, get_or, set, take, length-set}
use lib.Dec.{eqb}
use borrow.Author.Tests.{eq-eqb, ne_eqb}
use Rattle.heap_moves.specs.Cands.{Cand, no_cand, recount}
use Rattle.heap_moves.specs.inner.Totals.{total, Moved}
use Rattle.heap_moves.proofs.Moved.{total-set, total-next, up-moved, down-moved, update-moved}
use Rattle.heap.specs.declared.Answer.TheVariants.{Rescored, Seated, Displaced, TurnedAway}
use Rattle.heap.specs.Offer.{Table, Offered, find, place_of, rescore, seat, replace_root, offer}
use Rattle.heap.specs.Places.{code_of, displaced_key}
use Rattle.heap.specs.inner.Keys.{hit, key_hit, times_held, KeysOnce, gained_by, lost_by}
use Rattle.heap.proofs.Cases.{offer_cases}

-- ---- the first match

pub find-hit : (k n : ℕ) (cs : List Cand) → n ≤ length cs → find k (take n cs) < n → 0 < total (key_hit k) n cs
unfolding find total
find-hit k zero cs l h = absurd (omega arith)
find-hit k (suc n) [] l h = absurd (omega arith)
find-hit k (suc n) (c ∷ cs) l h = go (find-hit k n cs (omega arith)) (eqb c.item.key k) h
  where
    go : (find k (take n cs) < n → 0 < total (key_hit k) n cs) → (b : Bool) → cond b zero (suc (find k (take n cs))) < suc n → 0 < cond b 1 0 + total (key_hit k) n cs
    go ih true h = omega arith
    go ih false h = omega (arith, ih (omega arith))

pub find_miss : (k n : ℕ) (cs : List Cand) → n ≤ length cs → n ≤ find k (take n cs) → total (key_hit k) n cs ≡ 0
unfolding find total
find_miss k zero cs l h = refl
find_miss k (suc n) [] l h = absurd (omega arith)
find_miss k (suc n) (c ∷ cs) l h = go (find_miss k n cs (omega arith)) (eqb c.item.key k) h
  where
    go : (n ≤ find k (take n cs) → total (key_hit k) n cs ≡ 0) → (b : Bool) → suc n ≤ cond b zero (suc (find k (take n cs))) → cond b 1 0 + total (key_hit k) n cs ≡ 0
    go ih true h = absurd (omega arith)
    go ih false h = omega (arith, ih (omega arith))

-- ---- the four things that an offer does

-- The entries in use are those before, with one count changed, one entry added, or the root replaced; then they only change places.
pub data Effect (size : ℕ) (t : Table) (c : Cand) (o : Offered) : Type 1 where
  rescored : (i : ℕ) → i < t.len → 0 < times_held c.item.key t → o.answer ≡ Rescored → o.table.len ≡ t.len
      → Moved t.len (recount t.cands i c.count) o.table.cands → Effect size t c o
  seated : times_held c.item.key t ≡ 0 → t.len < size → o.answer ≡ Seated → o.table.len ≡ t.len + 1
      → Moved (t.len + 1) (set t.cands t.len c) o.table.cands → Effect size t c o
  displaced : times_held c.item.key t ≡ 0 → size ≤ t.len → o.answer ≡ Displaced (get_or t.cands 0 no_cand).item.key → o.table.len ≡ t.len
      → Moved t.len (set t.cands 0 c) o.table.cands → Effect size t c o
  turned_away : times_held c.item.key t ≡ 0 → size ≤ t.len → o.answer ≡ TurnedAway → o.table ≡ t → Effect size t c o

pub offer_effect : (size : ℕ) (t : Table) (c : Cand) → 0 < size → length t.cands ≡ size → t.len ≤ size → Effect size t c (offer size t c)
unfolding rescore seat replace_root times_held
offer_effect size t c z e l =
    offer_cases size t c (Effect size t c)
    (λ h. rescored i h (find-hit c.item.key n cs (omega arith) h) refl refl (update-moved n (recount cs i c.count) i h (simp length-set (omega arith))))
    (λ h k. seated (miss h) k refl refl (up-moved n (n + 1) (set cs n c) n (omega arith) (simp length-set (omega arith))))
    (λ h k q. displaced (miss h) k refl refl (down-moved n n (set cs 0 c) 0 (omega arith) (simp length-set (omega arith))))
    (λ h k q. turned_away (miss h) k refl refl)
  where
    n : ℕ
    n = t.len

    cs : List Cand
    cs = t.cands

    i : ℕ
    i = place_of c.item.key t

    miss : t.len ≤ place_of c.item.key t → total (key_hit c.item.key) t.len t.cands ≡ 0
    miss h = find_miss c.item.key t.len t.cands (omega arith) h

-- ---- the keys

hit_same : (k : ℕ) → hit k k ≡ 1
hit_same k = rw (eq-eqb k k refl)

-- a key that is not there is not one that is
apart : (j k : ℕ) (t : Table) → times_held j t ≡ 0 → 0 < times_held k t → hit j k ≡ 0
apart j k t h p = rw (ne_eqb j k (λ q. omega (arith, rw q at h)))

root-held : (t : Table) → 0 < t.len → t.len ≤ length t.cands → 0 < times_held (get_or t.cands 0 no_cand).item.key t
unfolding times_held total
root-held t p l = go t.len t.cands p l
  where
    go : (n : ℕ) (cs : List Cand) → 0 < n → n ≤ length cs → 0 < total (key_hit (get_or cs 0 no_cand).item.key) n cs
    go zero cs p l = absurd (omega arith)
    go (suc n) [] p l = absurd (omega arith)
    go (suc n) (x ∷ cs) p l = omega (arith, hit_same x.item.key)

module _ (size : ℕ) (t : Table) (c : Cand) (z : 0 < size) (e : length t.cands ≡ size) (l : t.len ≤ size) where
  effect_held : (o : Offered) → Effect size t c o → (k : ℕ) → times_held k o.table + lost_by o.answer k ≡ times_held k t + gained_by o.answer c.item.key k
  unfolding times_held
  effect_held o (rescored i hi h a n m) k =
      rw a
      (omega (
        arith,
        ap (λ (x : ℕ). total (key_hit k) x o.table.cands) n,
        m.sum (key_hit k),
        total-set (key_hit k) t.len t.cands i (record { item = (get_or t.cands i no_cand).item; count = c.count }) hi (omega arith),
      ))
  effect_held o (seated h r a n m) k =
      rw a
      (omega (
        arith,
        ap (λ (x : ℕ). total (key_hit k) x o.table.cands) n,
        m.sum (key_hit k),
        ap (λ (x : ℕ). total (key_hit k) x (set t.cands t.len c)) (add-one t.len),
        total-next (key_hit k) t.len t.cands c (omega arith),
      ))
  effect_held o (displaced h r a n m) k =
      rw a
      (omega (
        arith,
        ap (λ (x : ℕ). total (key_hit k) x o.table.cands) n,
        m.sum (key_hit k),
        total-set (key_hit k) t.len t.cands 0 c (omega arith) (omega arith),
      ))
  effect_held o (turned_away h r a q) k = rw (a, q) (omega arith)

  -- A known key leaves the keys as they were, a seated one adds exactly itself, one that displaces adds itself and takes out exactly the root's, one turned away changes nothing.
  pub offer-held : (k : ℕ) → times_held k (offer size t c).table + lost_by (offer size t c).answer k ≡ times_held k t + gained_by (offer size t c).answer c.item.key k
  offer-held = effect_held (offer size t c) (offer_effect size t c z e l)

  -- a key comes in only if it was not there
  effect_new : (o : Offered) → Effect size t c o → (k : ℕ) → times_held k t ≤ 1 → times_held k t + gained_by o.answer c.item.key k ≤ 1
  effect_new o (rescored i hi h a n m) k u = rw a (omega arith)
  effect_new o (seated h r a n m) k u = rw a (new h (ℕ_discrete c.item.key k))
    where
      new : times_held c.item.key t ≡ 0 → Dec (c.item.key ≡ k) → times_held k t + hit c.item.key k ≤ 1
      new h (yes q) = rw (eq-eqb c.item.key k q) (omega (arith, rw q at h))
      new h (no f) = rw (ne_eqb c.item.key k f) (omega arith)
  effect_new o (displaced h r a n m) k u = rw a (new h (ℕ_discrete c.item.key k))
    where
      new : times_held c.item.key t ≡ 0 → Dec (c.item.key ≡ k) → times_held k t + hit c.item.key k ≤ 1
      new h (yes q) = rw (eq-eqb c.item.key k q) (omega (arith, rw q at h))
      new h (no f) = rw (ne_eqb c.item.key k f) (omega arith)
  effect_new o (turned_away h r a q) k u = rw a (omega arith)

  -- distinct keys stay distinct
  pub offer-once : KeysOnce t → KeysOnce (offer size t c).table
  offer-once u k = omega (arith, offer-held k, effect_new (offer size t c) (offer_effect size t c z e l) k (u k))

  -- ---- the key that went

  effect_displaced : (o : Offered) → Effect size t c o → (k : ℕ) → o.answer ≡ Displaced k → (0 < times_held k t) × (KeysOnce t → times_held k o.table ≡ 0)
  effect_displaced o (rescored i hi h a n m) k s = absurd (omega (arith, ap code_of (sym a ∙ s)))
  effect_displaced o (seated h r a n m) k s = absurd (omega (arith, ap code_of (sym a ∙ s)))
  effect_displaced o (turned_away h r a q) k s = absurd (omega (arith, ap code_of (sym a ∙ s)))
  effect_displaced o (displaced h r a n m) k s = (held, λ u. omega (arith, went, u k, apart c.item.key k t h held, hit_same k))
    where
      held : 0 < times_held k t
      held = subst (λ (j : ℕ). 0 < times_held j t) (ap displaced_key (sym a ∙ s)) (root-held t (omega arith) (omega arith))

      went : times_held k o.table + hit k k ≡ times_held k t + hit c.item.key k
      went = rw s at (effect_held o (displaced h r a n m) k)

  -- A displaced key was a candidate before, and is none after if no key stood there twice.
  pub offer_displaced : (k : ℕ) → (offer size t c).answer ≡ Displaced k → (0 < times_held k t) × (KeysOnce t → times_held k (offer size t c).table ≡ 0)
  offer_displaced = effect_displaced (offer size t c) (offer_effect size t c z e l)
