-- The check of an index says what `Indexes` says.
use mathlib.Core.Path.{◌≡◌, refl, sym, ap, ◌∙◌, subst}
use mathlib.Core.Logic.{◌≢◌}
use mathlib.Core.Bool.{true, cond, ◌&&◌}
use mathlib.Core.List.{List}
use Prim.Native.Nat.{ℕ, zero, suc, ◌+◌, ◌-◌, ◌≤◌, ◌<◌}
use native.Mathlib.Omega.{arith}
use native.Mathlib.Nat.{mod-lt}
use native.Mathlib.Decide.{ℕ_discrete}
use lib.ListN.{length}
use lib.Dec.{eqb, leb, ltb}
use borrow.Author.Tests.{eq-eqb, ne_eqb, eqb-true, le-leb, leb-true, lt-ltb, ltb-true}
use Rattle.std.proofs.Common.{Option, Some, None}
use Rattle.words.proofs.Bools.{and_left, and_right, both}
use Rattle.heap_moves.specs.Cands.{Cand}
use Rattle.heap_index.specs.declared.Lookup.{Lookup}
use Rattle.heap_index.specs.declared.Lookup.TheVariants.{Met, Vacant}
use Rattle.heap_index.specs.Index.{home, dist, word, key_at, look_from, look, under_by, found_under, entries_ok, place_ok, places_ok, index_ok}
use Rattle.heap_index.specs.inner.Indexes.{home_on, Indexes, Ranged}
use Rattle.heap_index.proofs.LookupEnds.{MetAt, found_met}
use Rattle.heap_index.proofs.Stands.{stands}

module _ (xs : List ℕ) (n : ℕ) (cs : List Cand) where
  -- the lookup of the key of i ended at the place p, under i
  pub record At (i p : ℕ) : Type 0 where
    pub number : word xs p ≡ suc i
    pub probes : ℕ
    pub ends : look xs n cs (key_at cs i) ≡ Some (Met p probes)
    pub met : MetAt xs n cs (key_at cs i) (home (length xs) (key_at cs i)) p

  pub place_at : (i : ℕ) → found_under xs n cs i < length xs → At i (found_under xs n cs i)
  unfolding found_under look
  place_at i h = go (look_from (length xs) xs n cs (key_at cs i) (home (length xs) (key_at cs i)) 0) refl h
    where
      go : (l : Option Lookup) → look_from (length xs) xs n cs (key_at cs i) (home (length xs) (key_at cs i)) 0 ≡ l → under_by xs i l < length xs → At i (under_by xs i l)
      go (Some (Met p d)) e h = by (ℕ_discrete (word xs p) (suc i)) h
        where
          by : Dec (word xs p ≡ suc i) → cond (eqb (word xs p) (suc i)) p (length xs) < length xs → At i (cond (eqb (word xs p) (suc i)) p (length xs))
          by (yes s) h =
              rw (eq-eqb (word xs p) (suc i) s)
              (record {
                number = s;
                probes = d;
                ends = e;
                met = found_met xs n cs (key_at cs i) (length xs) (home (length xs) (key_at cs i)) 0 p d (mod-lt (key_at cs i) (omega (arith, rw (eq-eqb (word xs p) (suc i) s) at h))) e;
              })
          by (no s) h = absurd (omega (arith, rw (ne_eqb (word xs p) (suc i) s) at h))
      go (Some (Vacant p d)) e h = absurd (omega (arith, h))
      go None e h = absurd (omega (arith, h))

  -- ---- from the check

  entries-all : (k i : ℕ) → entries_ok k xs n cs i ≡ true → (j : ℕ) → i ≤ j → j < k + i → found_under xs n cs j < length xs
  unfolding entries_ok
  entries-all zero i e j l h = absurd (omega arith)
  entries-all (suc k) i e j l h = go (ℕ_discrete j i) (entries-all k (suc i) (and_right (ltb (found_under xs n cs i) (length xs)) (entries_ok k xs n cs (suc i)) e) j)
    where
      go : Dec (j ≡ i) → (suc i ≤ j → j < k + suc i → found_under xs n cs j < length xs) → found_under xs n cs j < length xs
      go (yes s) ih = rw s (ltb-true _ _ (and_left (ltb (found_under xs n cs i) (length xs)) (entries_ok k xs n cs (suc i)) e))
      go (no s) ih = ih (omega (arith, s)) (omega arith)

  places-all : (k p : ℕ) → places_ok k xs n cs p ≡ true → (q : ℕ) → p ≤ q → q < k + p → place_ok xs n cs q ≡ true
  unfolding places_ok
  places-all zero p e q l h = absurd (omega arith)
  places-all (suc k) p e q l h = go (ℕ_discrete q p) (places-all k (suc p) (and_right (place_ok xs n cs p) (places_ok k xs n cs (suc p)) e) q)
    where
      go : Dec (q ≡ p) → (suc p ≤ q → q < k + suc p → place_ok xs n cs q ≡ true) → place_ok xs n cs q ≡ true
      go (yes s) ih = rw s (and_left (place_ok xs n cs p) (places_ok k xs n cs (suc p)) e)
      go (no s) ih = ih (omega (arith, s)) (omega arith)

  place-named : (p : ℕ) → place_ok xs n cs p ≡ true → word xs p ≢ 0 → (word xs p ≤ n) × (found_under xs n cs (word xs p - 1) ≡ p)
  unfolding place_ok
  place-named p e z =
      let h : leb (word xs p) n && eqb (found_under xs n cs (word xs p - 1)) p ≡ true = rw (ne_eqb (word xs p) 0 z) at e in
      (leb-true _ _ (and_left (leb (word xs p) n) (eqb (found_under xs n cs (word xs p - 1)) p) h), eqb-true _ _ (and_right (leb (word xs p) n) (eqb (found_under xs n cs (word xs p - 1)) p) h))

  pub check_holds : index_ok xs n cs ≡ true → Indexes xs n cs n
  unfolding index_ok
  check_holds e =
      record {
        named = λ p h. few p h (ℕ_discrete (word xs p) 0);
        out = λ p h y. omega (arith, few p h (ℕ_discrete (word xs p) 0), y);
        once = λ p q hp hq s z. sym (here p hp z).1 ∙ ap (λ (x : ℕ). found_under xs n cs (x - 1)) s ∙ (here q hq (λ y. z (s ∙ y))).1;
        at = λ j h ne. (found_under xs n cs j, entry j h, (place_at j (entry j h)).number);
        reach = λ p q hp hq z l. reached p q hp hq z l;
        keys = λ i j hi hj oi oj s. distinct i j hi hj s;
      }
    where
      entry : (j : ℕ) → j < n → found_under xs n cs j < length xs
      entry j h = entries-all n 0 (and_left (entries_ok n xs n cs 0) (places_ok (length xs) xs n cs 0) e) j (omega arith) (omega arith)

      here : (p : ℕ) → p < length xs → word xs p ≢ 0 → (word xs p ≤ n) × (found_under xs n cs (word xs p - 1) ≡ p)
      here p h z = place-named p (places-all (length xs) 0 (and_right (entries_ok n xs n cs 0) (places_ok (length xs) xs n cs 0) e) p (omega arith) (omega arith)) z

      few : (p : ℕ) → p < length xs → Dec (word xs p ≡ 0) → word xs p ≤ n
      few p h (yes z) = omega (arith, z)
      few p h (no z) = (here p h z).0

      reached : (p q : ℕ) → p < length xs → q < length xs → word xs p ≢ 0 → dist (length xs) (home_on (length xs) xs cs p) q < dist (length xs) (home_on (length xs) xs cs p) p → word xs q ≢ 0
      reached p q hp hq z l =
          let w = here p hp z in
          let a = place_at (word xs p - 1) (entry (word xs p - 1) (omega (arith, w.0, z))) in
          a.met.before q hq (subst (λ (x : ℕ). dist (length xs) (home_on (length xs) xs cs p) q < dist (length xs) (home_on (length xs) xs cs p) x) (sym w.1) l)

      distinct : (i j : ℕ) → i < n → j < n → key_at cs i ≡ key_at cs j → i ≡ j
      distinct i j hi hj s =
          let a = place_at i (entry i hi) in
          let b = place_at j (entry j hj) in
          let same : Some (Met (found_under xs n cs i) a.probes) ≡ Some (Met (found_under xs n cs j) b.probes) = sym a.ends ∙ ap (look xs n cs) s ∙ b.ends in
          let pl : found_under xs n cs i ≡ found_under xs n cs j = cc in
          omega (arith, a.number, b.number, ap (word xs) pl)

  -- ---- and back

  entries-ok : (k i : ℕ) → ((j : ℕ) → i ≤ j → j < k + i → found_under xs n cs j < length xs) → entries_ok k xs n cs i ≡ true
  unfolding entries_ok
  entries-ok zero i h = refl
  entries-ok (suc k) i h = both (lt-ltb _ _ (h i (omega arith) (omega arith))) (entries-ok k (suc i) (λ j a b. h j (omega arith) (omega arith)))

  places-ok : (k p : ℕ) → ((q : ℕ) → p ≤ q → q < k + p → place_ok xs n cs q ≡ true) → places_ok k xs n cs p ≡ true
  unfolding places_ok
  places-ok zero p h = refl
  places-ok (suc k) p h = both (h p (omega arith) (omega arith)) (places-ok k (suc p) (λ q a b. h q (omega arith) (omega arith)))

  place_ok_lem : (p : ℕ) → (word xs p ≢ 0 → (word xs p ≤ n) × (found_under xs n cs (word xs p - 1) ≡ p)) → place_ok xs n cs p ≡ true
  unfolding place_ok
  place_ok_lem p h = go (ℕ_discrete (word xs p) 0)
    where
      go : Dec (word xs p ≡ 0) → cond (eqb (word xs p) 0) true (leb (word xs p) n && eqb (found_under xs n cs (word xs p - 1)) p) ≡ true
      go (yes z) = rw (eq-eqb (word xs p) 0 z)
      go (no z) = rw (ne_eqb (word xs p) 0 z) (both (le-leb _ _ (h z).0) (eq-eqb _ _ (h z).1))

  pub holds_check : Indexes xs n cs n → Ranged n cs → index_ok xs n cs ≡ true
  unfolding index_ok
  holds_check v r =
      both (entries-ok n 0 (λ j a b. entry j (omega arith)))
      (places-ok (length xs) 0 (λ p a b. place_ok_lem p (λ z. (v.named p (omega arith), here p (omega arith) z))))
    where
      entry : (j : ℕ) → j < n → found_under xs n cs j < length xs
      entry j h = let s = stands xs n cs n v r j h (omega (arith, h)) in rw s.found s.below

      here : (p : ℕ) → p < length xs → word xs p ≢ 0 → found_under xs n cs (word xs p - 1) ≡ p
      here p h z =
          let few = v.named p h in
          let s = stands xs n cs n v r (word xs p - 1) (omega (arith, few, z)) (λ y. omega (arith, few, z, y)) in
          s.found ∙ v.once s.place p s.below h (s.number ∙ omega (arith, z)) (λ y. omega (arith, s.number, y))
