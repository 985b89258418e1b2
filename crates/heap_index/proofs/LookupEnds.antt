-- Where a lookup ends.
use mathlib.Core.Path.{◌≡◌, refl, sym, ap, ◌∙◌, subst}
use mathlib.Core.Logic.{◌≢◌}
use mathlib.Core.Bool.{Bool, true, false, cond, not, ◌&&◌}
use mathlib.Core.List.{List}
use Prim.Native.Nat.{ℕ, zero, suc, ◌+◌, ◌-◌, ◌≤◌, ◌<◌}
use native.Mathlib.Omega.{arith}
use native.Mathlib.Decide.{ℕ_discrete}
use lib.ListN.{length}
use lib.Dec.{eqb, leb}
use borrow.Author.Tests.{eq-eqb, ne_eqb, eqb-true, eqb-false, le-leb, leb-true}
use Rattle.std.proofs.Common.{Some, None}
use Rattle.words.specs.Num.{in_range}
use Rattle.words.proofs.Bools.{and_left}
use Rattle.heap_moves.specs.Cands.{Cand, count_at}
use Rattle.heap_index.specs.declared.Lookup.TheVariants.{Met, Vacant}
use Rattle.heap_index.specs.Index.{next_place, dist, word, key_on, is_name, look_from}
use Rattle.heap_index.specs.inner.Indexes.{Ranged}
use Rattle.heap_index.proofs.Circle.{dist_self, dist-next, next-lt}

-- ---- one step of a lookup

pub names_is : (n : ℕ) (cs : List Cand) (w : ℕ) → Ranged n cs → w ≢ 0 → w ≤ n → is_name n cs w ≡ true
unfolding is_name
names_is n cs w r z h = rw (le-leb w n h, r (w - 1) (omega arith))

module _ (xs : List ℕ) (n : ℕ) (cs : List Cand) (k : ℕ) where
  look_vacant : (f p d : ℕ) → word xs p ≡ 0 → look_from (suc f) xs n cs k p d ≡ Some (Vacant p (d + 1))
  unfolding look_from
  look_vacant f p d e = rw (eq-eqb (word xs p) 0 e)

  look-found : (f p d : ℕ) → word xs p ≢ 0 → is_name n cs (word xs p) ≡ true → key_on xs cs p ≡ k → look_from (suc f) xs n cs k p d ≡ Some (Met p (d + 1))
  unfolding look_from
  look-found f p d z g e = rw (ne_eqb (word xs p) 0 z, g, eq-eqb (key_on xs cs p) k e)

  look_on : (f p d : ℕ) → word xs p ≢ 0 → is_name n cs (word xs p) ≡ true → key_on xs cs p ≢ k → look_from (suc f) xs n cs k p d ≡ look_from f xs n cs k (next_place (length xs) p) (d + 1)
  unfolding look_from
  look_on f p d z g e = rw (ne_eqb (word xs p) 0 z, g, ne_eqb (key_on xs cs p) k e)

  -- ---- an empty place is met before the key

  -- the first empty place from p on, and the lookup that ends there
  pub record Empties (f p d : ℕ) : Type 0 where
    pub place : ℕ
    pub below : place < length xs
    pub empty : word xs place ≡ 0
    pub before : (q : ℕ) → q < length xs → dist (length xs) p q < dist (length xs) p place → word xs q ≢ 0
    pub ends : look_from f xs n cs k p d ≡ Some (Vacant place (d + dist (length xs) p place + 1))

  pub vacant_from : (f p d t : ℕ) → ((q : ℕ) → q < length xs → word xs q ≢ 0 → is_name n cs (word xs q) ≡ true) → ((q : ℕ) → q < length xs → word xs q ≢ 0 → key_on xs cs q ≢ k)
      → p < length xs → t < length xs → word xs t ≡ 0 → dist (length xs) p t < f → Empties f p d
  vacant_from zero p d t good other hp ht e h = absurd (omega arith)
  vacant_from (suc f) p d t good other hp ht e h = go (ℕ_discrete (word xs p) 0) (vacant_from f (next_place (length xs) p) (d + 1) t good other (next-lt (length xs) p hp) ht e)
    where
      m : ℕ
      m = length xs

      go : Dec (word xs p ≡ 0) → (dist (length xs) (next_place (length xs) p) t < f → Empties f (next_place (length xs) p) (d + 1)) → Empties (suc f) p d
      go (yes z) ih =
          record {
            place = p;
            below = hp;
            empty = z;
            before = λ q hq l. absurd (omega (arith, l, dist_self m p));
            ends = look_vacant f p d z ∙ ap (λ (x : ℕ). Some (Vacant p (x + 1))) (omega (arith, dist_self m p));
          }
      go (no z) ih = on (ih (omega (arith, dist-next m p t hp ht (λ q. z (ap (word xs) q ∙ e)))))
        where
          on : Empties f (next_place (length xs) p) (d + 1) → Empties (suc f) p d
          on v =
              let far = dist-next m p v.place hp v.below (λ q. z (ap (word xs) q ∙ v.empty)) in
              record {
                place = v.place;
                below = v.below;
                empty = v.empty;
                before = λ q hq l. nearer q hq l (ℕ_discrete p q);
                ends = look_on f p d z (good p hp z) (other p hp z) ∙ v.ends ∙ ap (λ (x : ℕ). Some (Vacant v.place (x + 1))) (omega (arith, far));
              }
            where
              nearer : (q : ℕ) → q < length xs → dist (length xs) p q < dist (length xs) p v.place → Dec (p ≡ q) → word xs q ≢ 0
              nearer q hq l (yes s) = λ y. z (ap (word xs) s ∙ y)
              nearer q hq l (no s) =
                  v.before q hq (omega (arith, l, dist-next m p q hp hq s, dist-next m p v.place hp v.below (λ y. z (ap (word xs) y ∙ v.empty))))

  -- ---- the key is met before an empty place

  pub found_from : (f p d t : ℕ) → ((q : ℕ) → q < length xs → word xs q ≢ 0 → is_name n cs (word xs q) ≡ true) → p < length xs → t < length xs → word xs t ≢ 0 → key_on xs cs t ≡ k
      → ((q : ℕ) → q < length xs → dist (length xs) p q < dist (length xs) p t → (word xs q ≢ 0) × (key_on xs cs q ≢ k)) → dist (length xs) p t < f
      → look_from f xs n cs k p d ≡ Some (Met t (d + dist (length xs) p t + 1))
  found_from zero p d t good hp ht z e before h = absurd (omega arith)
  found_from (suc f) p d t good hp ht z e before h = go (ℕ_discrete p t) (found_from f (next_place (length xs) p) (d + 1) t good (next-lt (length xs) p hp) ht z e)
    where
      m : ℕ
      m = length xs

      go : Dec (p ≡ t)
          → (((q : ℕ) → q < length xs → dist (length xs) (next_place (length xs) p) q < dist (length xs) (next_place (length xs) p) t → (word xs q ≢ 0) × (key_on xs cs q ≢ k)) → dist (length xs) (next_place (length xs) p) t < f
          → look_from f xs n cs k (next_place (length xs) p) (d + 1) ≡ Some (Met t (d + 1 + dist (length xs) (next_place (length xs) p) t + 1)))
          → look_from (suc f) xs n cs k p d ≡ Some (Met t (d + dist (length xs) p t + 1))
      go (yes s) ih =
          look-found f p d (λ y. z (sym (ap (word xs) s) ∙ y)) (good p hp (λ y. z (sym (ap (word xs) s) ∙ y))) (ap (key_on xs cs) s ∙ e)
          ∙ ap (λ (x : ℕ). Some (Met x (d + 1))) s ∙ ap (λ (x : ℕ). Some (Met t (x + 1))) (omega (arith, dist_self m t, ap (λ (x : ℕ). dist m x t) s))
      go (no s) ih =
          let far = dist-next m p t hp ht s in
          let here = before p hp (omega (arith, far, dist_self m p)) in
          look_on f p d here.0 (good p hp here.0) here.1 ∙ ih (λ q hq l. before q hq (nearer q hq l (ℕ_discrete p q))) (omega (arith, far))
          ∙ ap (λ (x : ℕ). Some (Met t (x + 1))) (omega (arith, far))
        where
          nearer : (q : ℕ) → q < length xs → dist (length xs) (next_place (length xs) p) q < dist (length xs) (next_place (length xs) p) t → Dec (p ≡ q) → dist (length xs) p q < dist (length xs) p t
          nearer q hq l (yes y) = omega (arith, dist-next m p t hp ht s, ap (λ (x : ℕ). dist m p x) y, dist_self m p)
          nearer q hq l (no y) = omega (arith, l, dist-next m p t hp ht s, dist-next m p q hp hq y)

  -- ---- and what a lookup that ended at the key has met

  pub record MetAt (p t : ℕ) : Type 0 where
    pub below : t < length xs
    pub there : word xs t ≢ 0
    pub named : word xs t ≤ n
    pub key : key_on xs cs t ≡ k
    pub before : (q : ℕ) → q < length xs → dist (length xs) p q < dist (length xs) p t → word xs q ≢ 0

  pub found_met : (f p d t e : ℕ) → p < length xs → look_from f xs n cs k p d ≡ Some (Met t e) → MetAt p t
  unfolding look_from is_name
  found_met zero p d t e hp q = let z : ◌≡◌ {A = ℕ} 0 1 = cc in absurd (omega (arith, z))
  found_met (suc f) p d t e hp q =
      go (found_met f (next_place (length xs) p) (d + 1) t e (next-lt (length xs) p hp)) (eqb (word xs p) 0) refl (leb (word xs p) n && in_range (count_at cs (word xs p - 1))) refl (eqb (key_on xs cs p) k) refl q
    where
      m : ℕ
      m = length xs

      go : (look_from f xs n cs k (next_place (length xs) p) (d + 1) ≡ Some (Met t e) → MetAt (next_place (length xs) p) t) → (a : Bool) → eqb (word xs p) 0 ≡ a
          → (b : Bool) → leb (word xs p) n && in_range (count_at cs (word xs p - 1)) ≡ b → (c : Bool) → eqb (key_on xs cs p) k ≡ c
          → cond a (Some (Vacant p (d + 1))) (cond (not b) None (cond c (Some (Met p (d + 1))) (look_from f xs n cs k (next_place (length xs) p) (d + 1)))) ≡ Some (Met t e) → MetAt p t
      go ih true ea b eb c ec h = let z : ◌≡◌ {A = ℕ} 0 1 = cc in absurd (omega (arith, z))
      go ih false ea false eb c ec h = let z : ◌≡◌ {A = ℕ} 0 1 = cc in absurd (omega (arith, z))
      go ih false ea true eb true ec h =
          let s : p ≡ t = cc in
          subst (MetAt p) s
          (record {
            below = hp;
            there = eqb-false (word xs p) 0 ea;
            named = leb-true (word xs p) n (and_left _ _ eb);
            key = eqb-true (key_on xs cs p) k ec;
            before = λ y hy l. absurd (omega (arith, l, dist_self m p));
          })
      go ih false ea true eb false ec h = on (ih h)
        where
          on : MetAt (next_place (length xs) p) t → MetAt p t
          on v =
              record { below = v.below; there = v.there; named = v.named; key = v.key; before = λ y hy l. nearer y hy l (ℕ_discrete p y) }
            where
              apart : p ≢ t
              apart s = eqb-false (key_on xs cs p) k ec (ap (key_on xs cs) s ∙ v.key)

              nearer : (y : ℕ) → y < length xs → dist (length xs) p y < dist (length xs) p t → Dec (p ≡ y) → word xs y ≢ 0
              nearer y hy l (yes s) = λ x. eqb-false (word xs p) 0 ea (ap (word xs) s ∙ x)
              nearer y hy l (no s) = v.before y hy (omega (arith, l, dist-next m p y hp hy s, dist-next m p t hp v.below apart))
