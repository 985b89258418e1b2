-- The lookups in an index that holds its candidates: a held key is found under its number, another key ends at an empty place.
use mathlib.Core.Path.{◌≡◌, sym, ap, ◌∙◌, subst}
use mathlib.Core.Logic.{◌≢◌}
use mathlib.Core.Bool.{true}
use mathlib.Core.List.{List}
use Prim.Native.Nat.{ℕ, suc, ◌+◌, ◌-◌, ◌<◌}
use native.Mathlib.Omega.{arith}
use native.Mathlib.Nat.{mod-lt}
use lib.ListN.{length}
use borrow.Author.Tests.{eq-eqb}
use Rattle.std.proofs.Common.{Some}
use Rattle.heap_moves.specs.Cands.{Cand}
use Rattle.heap_index.specs.declared.Lookup.TheVariants.{Met, Vacant}
use Rattle.heap_index.specs.Index.{home, dist, word, key_at, key_on, is_name, look_from, look, under_by, found_under}
use Rattle.heap_index.specs.inner.Indexes.{Indexes, Ranged}
use Rattle.heap_index.proofs.Circle.{dist-lt}
use Rattle.heap_index.proofs.Pigeons.{pigeons}
use Rattle.heap_index.proofs.LookupEnds.{names_is, vacant_from, found_from}

module _ (xs : List ℕ) (n : ℕ) (cs : List Cand) (o : ℕ) (v : Indexes xs n cs o) (r : Ranged n cs) where
  good : (q : ℕ) → q < length xs → word xs q ≢ 0 → is_name n cs (word xs q) ≡ true
  good q h z = names_is n cs (word xs q) r z (v.named q h)

  -- a place that names a key: no other does
  pub same_place : (p q : ℕ) → p < length xs → q < length xs → word xs p ≢ 0 → word xs q ≢ 0 → key_on xs cs p ≡ key_on xs cs q → p ≡ q
  same_place p q hp hq zp zq e =
      let same : word xs p - 1 ≡ word xs q - 1 =
      v.keys (word xs p - 1) (word xs q - 1) (omega (arith, v.named p hp, zp)) (omega (arith, v.named q hq, zq)) (λ y. v.out p hp (omega (arith, y, zp)))
      (λ y. v.out q hq (omega (arith, y, zq))) e in
      v.once p q hp hq (omega (arith, same, zp, zq)) zp

  -- ---- a held key

  -- where the entry j stands, and that its key's lookup ends there
  pub record Stands (j : ℕ) : Type 0 where
    pub place : ℕ
    pub below : place < length xs
    pub number : word xs place ≡ suc j
    pub ends : look xs n cs (key_at cs j) ≡ Some (Met place (dist (length xs) (home (length xs) (key_at cs j)) place + 1))
    pub found : found_under xs n cs j ≡ place

  pub stands : (j : ℕ) → j < n → j ≢ o → Stands j
  unfolding look found_under
  stands j hj ne = go (v.at j hj ne)
    where
      go : (p : ℕ) × (p < length xs) × (word xs p ≡ suc j) → Stands j
      go w = record { place = p; below = hp; number = e; ends = ends; found = ap (under_by xs j) ends ∙ rw (eq-eqb (word xs p) (suc j) e) }
        where
          p : ℕ
          p = w.0

          hp : w.0 < length xs
          hp = w.1

          e : word xs w.0 ≡ suc j
          e = w.2

          z : word xs w.0 ≢ 0
          z y = omega (arith, e, y)

          key : key_on xs cs w.0 ≡ key_at cs j
          key = let s : word xs w.0 - 1 ≡ j = omega (arith, e) in ap (key_at cs) s

          h : ℕ
          h = home (length xs) (key_at cs j)

          hh : home (length xs) (key_at cs j) < length xs
          hh = mod-lt (key_at cs j) (omega (arith, hp))

          before : (q : ℕ) → q < length xs → dist (length xs) (home (length xs) (key_at cs j)) q < dist (length xs) (home (length xs) (key_at cs j)) w.0 → (word xs q ≢ 0) × (key_on xs cs q ≢ key_at cs j)
          before q hq l =
              let zq : word xs q ≢ 0 = v.reach p q hp hq z (subst (λ (x : ℕ). dist (length xs) (home (length xs) x) q < dist (length xs) (home (length xs) x) p) (sym key) l) in
              (zq, λ y. let s : p ≡ q = same_place p q hp hq z zq (key ∙ sym y) in omega (arith, l, ap (λ (x : ℕ). dist (length xs) h x) s))

          ends : look_from (length xs) xs n cs (key_at cs j) (home (length xs) (key_at cs j)) 0 ≡ Some (Met w.0 (dist (length xs) (home (length xs) (key_at cs j)) w.0 + 1))
          ends = found_from xs n cs (key_at cs j) (length xs) h 0 p good hh hp z key before (dist-lt (length xs) h p hh hp) ∙ ap (λ (x : ℕ). Some (Met p (x + 1))) (omega arith)

  -- ---- another key

  -- the table is longer than its candidates are many: some place is empty
  pub room : n < length xs → (p : ℕ) × (p < length xs) × (word xs p ≡ 0)
  room h = pigeons n (word xs) (length xs) h v.named v.once

  abbrev pub Other : ℕ → Type 0
  Other k = (j : ℕ) → j < n → j ≢ o → key_at cs j ≢ k

  -- its lookup ends at the first empty place from its home on
  pub record Ends (k : ℕ) : Type 0 where
    pub place : ℕ
    pub below : place < length xs
    pub empty : word xs place ≡ 0
    pub before : (q : ℕ) → q < length xs → dist (length xs) (home (length xs) k) q < dist (length xs) (home (length xs) k) place → word xs q ≢ 0
    pub ends : look xs n cs k ≡ Some (Vacant place (dist (length xs) (home (length xs) k) place + 1))

  pub other_ends : (k : ℕ) → n < length xs → Other k → Ends k
  unfolding look
  other_ends k h other =
      let t = room h in
      let hh : home (length xs) k < length xs = mod-lt k (omega (arith, h)) in
      let e = vacant_from xs n cs k (length xs) (home (length xs) k) 0 t.0 good
      (λ q hq z. other (word xs q - 1) (omega (arith, v.named q hq, z)) (λ y. v.out q hq (omega (arith, y, z)))) hh t.1 t.2 (dist-lt (length xs) (home (length xs) k) t.0 hh t.1) in
      record { place = e.place; below = e.below; empty = e.empty; before = e.before; ends = e.ends ∙ ap (λ (x : ℕ). Some (Vacant e.place (x + 1))) (omega arith) }
