-- A key comes in.
use mathlib.Core.Path.{◌≡◌, refl, sym, ap, ◌∙◌, subst}
use mathlib.Core.Logic.{◌≢◌}
use mathlib.Core.Bool.{true}
use mathlib.Core.List.{List}
use Prim.Native.Nat.{ℕ, suc, ◌-◌, ◌≤◌, ◌<◌}
use native.Mathlib.Omega.{arith}
use native.Mathlib.Decide.{ℕ_discrete}
use lib.ListN.{length, set, length-set}
use lib.Seq.{get_or-set_same, get_or-set_other}
use Rattle.heap_moves.specs.Cands.{Cand, no_cand}
use Rattle.heap_index.specs.Index.{home, dist, word, key_at, key_on, insert_at, insert, IndexStep}
use Rattle.heap_index.specs.inner.Indexes.{home_on, IndexesIn, Indexes, Ranged}
use Rattle.heap_index.proofs.Stands.{other_ends}

-- ---- other entries, under the same keys

pub holds-keys : (m : ℕ) (xs : List ℕ) (n : ℕ) (cs ds : List Cand) (o : ℕ) → ((j : ℕ) → j < n → j ≢ o → key_at ds j ≡ key_at cs j) → IndexesIn m xs n cs o → IndexesIn m xs n ds o
holds-keys m xs n cs ds o same v =
    record {
      named = v.named;
      out = v.out;
      once = v.once;
      at = v.at;
      reach = λ p q hp hq z l. v.reach p q hp hq z (subst (λ (x : ℕ). dist m (home m x) q < dist m (home m x) p) (on p hp z) l);
      keys = λ i j hi hj oi oj e. v.keys i j hi hj oi oj (sym (same i hi oi) ∙ e ∙ same j hj oj);
    }
  where
    on : (p : ℕ) → p < m → word xs p ≢ 0 → key_on xs ds p ≡ key_on xs cs p
    on p h z = same (word xs p - 1) (omega (arith, v.named p h, z)) (λ y. v.out p h (omega (arith, y, z)))

-- one more entry, which is left out
pub holds-next : (m : ℕ) (xs : List ℕ) (n : ℕ) (cs : List Cand) → IndexesIn m xs n cs n → IndexesIn m xs (suc n) cs n
holds-next m xs n cs v =
    record {
      named = λ p h. omega (arith, v.named p h);
      out = v.out;
      once = v.once;
      at = λ j h ne. v.at j (omega (arith, ne)) ne;
      reach = v.reach;
      keys = λ i j hi hj oi oj e. v.keys i j (omega (arith, oi)) (omega (arith, oj)) oi oj e;
    }

-- ---- the entry o comes in at the first empty place from its key's home on

module _ (xs : List ℕ) (n : ℕ) (cs : List Cand) (o : ℕ) (v : Indexes xs n cs o) (ho : o < n) (e : ℕ) (he : e < length xs) (z : word xs e ≡ 0)
    (before : (q : ℕ) → q < length xs → dist (length xs) (home (length xs) (key_at cs o)) q < dist (length xs) (home (length xs) (key_at cs o)) e → word xs q ≢ 0)
    (new : (j : ℕ) → j < n → j ≢ o → key_at cs j ≢ key_at cs o) where
  here : (p : ℕ) → p ≡ e → word (set xs e (suc o)) p ≡ suc o
  here p s = ap (word (set xs e (suc o))) s ∙ get_or-set_same xs e (suc o) 0 he

  there : (p : ℕ) → p ≢ e → word (set xs e (suc o)) p ≡ word xs p
  there p s = get_or-set_other xs e p (suc o) 0 s

  in_named : (p : ℕ) → p < length xs → Dec (p ≡ e) → word (set xs e (suc o)) p ≤ n
  in_named p h (yes s) = omega (arith, here p s)
  in_named p h (no s) = omega (arith, there p s, v.named p h)

  in_once : (p q : ℕ) → p < length xs → q < length xs → word (set xs e (suc o)) p ≡ word (set xs e (suc o)) q → word (set xs e (suc o)) p ≢ 0 → Dec (p ≡ e) → Dec (q ≡ e) → p ≡ q
  in_once p q hp hq s y (yes a) (yes b) = a ∙ sym b
  in_once p q hp hq s y (yes a) (no b) = absurd (v.out q hq (sym (there q b) ∙ sym s ∙ here p a))
  in_once p q hp hq s y (no a) (yes b) = absurd (v.out p hp (sym (there p a) ∙ s ∙ here q b))
  in_once p q hp hq s y (no a) (no b) = v.once p q hp hq (sym (there p a) ∙ s ∙ there q b) (λ x. y (there p a ∙ x))

  in_at : (j : ℕ) → j < n → Dec (j ≡ o) → (p : ℕ) × (p < length xs) × (word (set xs e (suc o)) p ≡ suc j)
  in_at j h (yes s) = (e, he, here e refl ∙ ap suc (sym s))
  in_at j h (no s) = let w = v.at j h s in (w.0, w.1, there w.0 (λ y. omega (arith, ap (word xs) y, w.2, z)) ∙ w.2)

  in_reach : (p q : ℕ) → p < length xs → q < length xs → word (set xs e (suc o)) p ≢ 0
      → dist (length xs) (home_on (length xs) (set xs e (suc o)) cs p) q < dist (length xs) (home_on (length xs) (set xs e (suc o)) cs p) p → Dec (p ≡ e) → Dec (q ≡ e) → word (set xs e (suc o)) q ≢ 0
  in_reach p q hp hq y l a (yes b) = λ x. omega (arith, here q b, x)
  in_reach p q hp hq y l (yes a) (no b) =
      let k : key_on (set xs e (suc o)) cs p ≡ key_at cs o = let s : word (set xs e (suc o)) p - 1 ≡ o = omega (arith, here p a) in ap (key_at cs) s in
      let l1 = subst (λ (x : ℕ). dist (length xs) (home (length xs) x) q < dist (length xs) (home (length xs) x) p) k l in
      λ x. before q hq (subst (λ (x : ℕ). dist (length xs) (home (length xs) (key_at cs o)) q < dist (length xs) (home (length xs) (key_at cs o)) x) a l1) (sym (there q b) ∙ x)
  in_reach p q hp hq y l (no a) (no b) =
      let k : key_on (set xs e (suc o)) cs p ≡ key_on xs cs p = ap (λ (x : ℕ). key_at cs (x - 1)) (there p a) in
      λ x. v.reach p q hp hq (λ w. y (there p a ∙ w)) (subst (λ (x : ℕ). dist (length xs) (home (length xs) x) q < dist (length xs) (home (length xs) x) p) k l) (sym (there q b) ∙ x)

  in_keys : (i j : ℕ) → i < n → j < n → key_at cs i ≡ key_at cs j → Dec (i ≡ o) → Dec (j ≡ o) → i ≡ j
  in_keys i j hi hj s (yes a) (yes b) = a ∙ sym b
  in_keys i j hi hj s (yes a) (no b) = absurd (new j hj b (sym s ∙ ap (key_at cs) a))
  in_keys i j hi hj s (no a) (yes b) = absurd (new i hi a (s ∙ ap (key_at cs) b))
  in_keys i j hi hj s (no a) (no b) = v.keys i j hi hj a b s

  pub insert-at : Indexes (set xs e (suc o)) n cs n
  insert-at =
      subst (λ (m : ℕ). IndexesIn m (set xs e (suc o)) n cs n) (sym (length-set xs e (suc o)))
      (record {
        named = λ p h. in_named p h (ℕ_discrete p e);
        out = λ p h y. omega (arith, in_named p h (ℕ_discrete p e), y);
        once = λ p q hp hq s y. in_once p q hp hq s y (ℕ_discrete p e) (ℕ_discrete q e);
        at = λ j h ne. in_at j h (ℕ_discrete j o);
        reach = λ p q hp hq y l. in_reach p q hp hq y l (ℕ_discrete p e) (ℕ_discrete q e);
        keys = λ i j hi hj oi oj s. in_keys i j hi hj s (ℕ_discrete i o) (ℕ_discrete j o);
      })

-- a candidate comes in behind the n that there are, at the place where its key's lookup ended
pub next_in : (xs : List ℕ) (n : ℕ) (cs : List Cand) (c : Cand) → Indexes xs n cs n → n < length cs → (p : ℕ) → p < length xs → word xs p ≡ 0
    → ((q : ℕ) → q < length xs → dist (length xs) (home (length xs) c.item.key) q < dist (length xs) (home (length xs) c.item.key) p → word xs q ≢ 0)
    → ((j : ℕ) → j < n → key_at cs j ≢ c.item.key) → Indexes (set xs p (suc n)) (suc n) (set cs n c) (suc n)
next_in xs n cs c v inside p hp z before new =
    insert-at xs (suc n) (set cs n c) n (holds-next (length xs) xs n (set cs n c) (holds-keys (length xs) xs n cs (set cs n c) n (λ j hj ne. other j ne) v)) (omega arith) p hp z
    (subst (λ (k : ℕ). (q : ℕ) → q < length xs → dist (length xs) (home (length xs) k) q < dist (length xs) (home (length xs) k) p → word xs q ≢ 0) (sym here) before)
    (λ j hj ne e. new j (omega (arith, hj, ne)) (sym (other j ne) ∙ e ∙ here))
  where
    other : (j : ℕ) → j ≢ n → key_at (set cs n c) j ≡ key_at cs j
    other j ne = ap (λ (d : Cand). d.item.key) (get_or-set_other cs n j c no_cand ne)

    here : key_at (set cs n c) n ≡ c.item.key
    here = ap (λ (d : Cand). d.item.key) (get_or-set_same cs n c no_cand inside)

-- a table after a step that was not refused
pub record Kept (m : ℕ) (s : IndexStep) (n : ℕ) (cs : List Cand) (o : ℕ) : Type 0 where
  pub fine : s.fine ≡ true
  pub long : length s.table ≡ m
  pub holds : Indexes s.table n cs o

pub insert-kept : (xs : List ℕ) (n : ℕ) (cs : List Cand) (o : ℕ) → Indexes xs n cs o → Ranged n cs → o < n → n < length xs → ((j : ℕ) → j < n → j ≢ o → key_at cs j ≢ key_at cs o)
    → Kept (length xs) (insert xs n cs (key_at cs o) o) n cs n
unfolding insert
insert-kept xs n cs o v r ho h new =
    let e = other_ends xs n cs o v r (key_at cs o) h new in
    subst (λ (s : IndexStep). Kept (length xs) s n cs n) (sym (ap (insert_at xs o) e.ends))
    (record { fine = refl; long = length-set xs e.place (suc o); holds = insert-at xs n cs o v ho e.place e.below e.empty e.before new })
