-- Entries that are set aside: a key that stands there is met, another's lookup ends at the place where it comes in. Assumes nothing.
use mathlib.Core.Path.{◌≡◌, refl, sym, ap, ◌∙◌, subst}
use mathlib.Core.Logic.{◌≢◌, ◌⊎◌, inl, inr}
use mathlib.Core.Bool.{Bool, true, false, ◌||◌, true≢false}
use mathlib.Core.List.{List, [], ◌∷◌, ◌++◌, map, append-nil, map-append}
use Prim.Native.Nat.{ℕ, zero, suc, ◌+◌, ◌-◌, ◌*◌, ◌≤◌, ◌<◌}
use native.Mathlib.Omega.{arith}
use native.Mathlib.Numerals.{add-one}
use native.Mathlib.Decide.{ℕ_discrete}
use lib.ListN.{length, get_or, set, take}
use lib.Seq.{take-suc-set}
use lib.IntN.{ℤ, pos}
use lib.Dec.{eqb}
use borrow.Author.Tests.{eqb-true, eqb-false}
use Rattle.std.proofs.Common.{Option, Some, None}
use Rattle.words.specs.Num.{in_range}
use Rattle.heap_moves.specs.declared.Item.{Item}
use Rattle.heap_moves.specs.Cands.{Cand}
use Rattle.heap_moves.specs.Flat.{item_of, cands_of, cand_of}
use Rattle.heap_moves.proofs.Views.{cand_at, length-cands}
use Rattle.heap_moves.proofs.Moved.{each_next}
use Rattle.heap_index.specs.declared.Lookup.{Lookup}
use Rattle.heap_index.specs.declared.Lookup.TheVariants.{Met, Vacant}
use Rattle.heap_index.specs.Index.{home, dist, word, key_at, look}
use Rattle.heap_index.specs.inner.Indexes.{Indexes, Ranged}
use Rattle.heap_index.proofs.Stands.{stands, other_ends}
use Rattle.heap_index.proofs.Inserts.{next_in}
use Rattle.layer.specs.Merge.{has_key, firsts}
use Rattle.layer.specs.inner.Gather.{items_from, items_of, keys_of}
use Rattle.layer.proofs.Firsts.{items-of, next-key, firsts-behind}
use Rattle.layer.proofs.Gathers.{items_left}
use Rattle.layer_merge_indexed.specs.inner.Aside.{Apart, with_firsts}

-- ---- a key stands in one of the first k entries, or in none

abbrev pub Somewhere : List ℕ → ℕ → ℕ → Type 0
Somewhere es k key = (j : ℕ) × (j < k) × (get_or es (4 * j) 0 ≡ key)

abbrev pub Nowhere : List ℕ → ℕ → ℕ → Type 0
Nowhere es k key = (j : ℕ) → j < k → get_or es (4 * j) 0 ≢ key

where_key : (es : List ℕ) (k key : ℕ) → (Somewhere es k key × (has_key key (keys_of es k) ≡ true)) ⊎ (Nowhere es k key × (has_key key (keys_of es k) ≡ false))
unfolding has_key items_from
where_key es zero key = inr (λ j h. absurd (omega (arith, h)), refl)
where_key es (suc k) key = go (where_key es k key) (eqb (get_or es (4 * k) 0) key) refl
  where
    next : has_key key (keys_of es (suc k)) ≡ (has_key key (keys_of es k) || eqb (get_or es (4 * k) 0) key)
    next = ap (λ (z : ℕ). has_key key (keys_of es z)) (sym (add-one k)) ∙ next-key es key k

    last : (p : ℕ) → p < suc k → Dec (p ≡ k) → get_or es (4 * k) 0 ≢ key → Nowhere es k key → get_or es (4 * p) 0 ≢ key
    last p h (yes q) e s = λ y. e (sym (ap (λ (z : ℕ). get_or es (4 * z) 0) q) ∙ y)
    last p h (no q) e s = s p (omega (arith, q))

    go : (Somewhere es k key × (has_key key (keys_of es k) ≡ true)) ⊎ (Nowhere es k key × (has_key key (keys_of es k) ≡ false)) → (b : Bool) → eqb (get_or es (4 * k) 0) key ≡ b
        → (Somewhere es (suc k) key × (has_key key (keys_of es (suc k)) ≡ true)) ⊎ (Nowhere es (suc k) key × (has_key key (keys_of es (suc k)) ≡ false))
    go (inl s) b e = inl ((s.0.0, omega (arith, s.0.1), s.0.2), next ∙ rw s.1)
    go (inr s) true e = inl ((k, omega arith, eqb-true (get_or es (4 * k) 0) key e), next ∙ rw (s.1, e))
    go (inr s) false e = inr (λ p h. last p h (ℕ_discrete p k) (eqb-false (get_or es (4 * k) 0) key e) s.0, next ∙ rw (s.1, e))

-- ---- what the lookup says

abbrev pub is_met : Option Lookup → Bool
is_met (Some (Met p d)) = true
is_met (Some (Vacant p d)) = false
is_met None = false

abbrev pub is_vacant : Option Lookup → Bool
is_vacant (Some (Met p d)) = false
is_vacant (Some (Vacant p d)) = true
is_vacant None = false

abbrev pub vacant_at : Option Lookup → ℕ
vacant_at (Some (Met p d)) = 0
vacant_at (Some (Vacant p d)) = p
vacant_at None = 0

one_of : (l : Option Lookup) → is_met l ≡ true → is_vacant l ≡ true → ⊥
one_of (Some (Met p d)) a b = true≢false (sym b)
one_of (Some (Vacant p d)) a b = true≢false (sym a)
one_of None a b = true≢false (sym a)

module _ (xs es : List ℕ) (ns : List ℤ) (k : ℕ) (v : Apart xs es ns k) (places : k < length xs) (key : ℕ) where
  abbrev cs : List Cand
  cs = cands_of es ns

  at : (j : ℕ) → j < k → key_at cs j ≡ get_or es (4 * j) 0
  at j h = ap (λ (c : Cand). c.item.key) (cand_at es ns j (omega (arith, h, v.used)))

  -- the key stands there, and is met; or it does not, and its lookup ends at an empty place
  pub record ComesIn (l : Option Lookup) : Type 0 where
    pub place : ℕ
    pub ends : vacant_at l ≡ place
    pub below : place < length xs
    pub empty : word xs place ≡ 0
    pub before : (q : ℕ) → q < length xs → dist (length xs) (home (length xs) key) q < dist (length xs) (home (length xs) key) place → word xs q ≢ 0
    pub new : (j : ℕ) → j < k → key_at cs j ≢ key

  pub said : (l : Option Lookup) → l ≡ look xs k cs key → ((has_key key (keys_of es k) ≡ true) × (is_met l ≡ true)) ⊎ ((has_key key (keys_of es k) ≡ false) × ((is_vacant l ≡ true) × ComesIn l))
  said l e = go (where_key es k key)
    where
      go : (Somewhere es k key × (has_key key (keys_of es k) ≡ true)) ⊎ (Nowhere es k key × (has_key key (keys_of es k) ≡ false))
          → ((has_key key (keys_of es k) ≡ true) × (is_met l ≡ true)) ⊎ ((has_key key (keys_of es k) ≡ false) × ((is_vacant l ≡ true) × ComesIn l))
      go (inl s) =
          let j = s.0.0 in
          let w = stands xs k cs k v.holds v.ranged j s.0.1 (λ y. omega (arith, y, s.0.1)) in
          inl (s.1, ap is_met (e ∙ ap (look xs k cs) (sym (at j s.0.1 ∙ s.0.2)) ∙ w.ends))
      go (inr s) =
          let new : (j : ℕ) → j < k → key_at cs j ≢ key = λ j h y. s.0 j h (sym (at j h) ∙ y) in
          let w = other_ends xs k cs k v.holds v.ranged key places (λ j h ne. new j h) in
          inr (s.1, (ap is_vacant (e ∙ w.ends), record { place = w.place; ends = ap vacant_at (e ∙ w.ends); below = w.below; empty = w.empty; before = w.before; new = new }))

-- ---- an entry comes in, unless its key stands there

module _ (xs es : List ℕ) (ns : List ℤ) (k : ℕ) (v : Apart xs es ns k) (places : k < length xs) (w : Item) (l : Option Lookup) (e : l ≡ look xs k (cands_of es ns) w.key) where
  -- a key that stands there
  known_stays : has_key w.key (keys_of es k) ≡ true → items_of es k ≡ with_firsts (items_of es k) (w ∷ [])
  unfolding firsts
  known_stays h = rw h (sym (append-nil (items_of es k)))

  -- a lookup that does not end at an empty place ended at the key
  pub other_stays : is_vacant l ≡ false → items_of es k ≡ with_firsts (items_of es k) (w ∷ [])
  other_stays n = go (said xs es ns k v places w.key l e)
    where
      go : ((has_key w.key (keys_of es k) ≡ true) × (is_met l ≡ true)) ⊎ ((has_key w.key (keys_of es k) ≡ false) × ((is_vacant l ≡ true) × ComesIn xs es ns k v places w.key l))
          → items_of es k ≡ with_firsts (items_of es k) (w ∷ [])
      go (inl s) = known_stays s.0
      go (inr s) = absurd (true≢false (sym s.1.0 ∙ n))

  -- a new key
  module _ (room : k < length ns) (p : ℕ) (vacant : is_vacant l ≡ true) (place : vacant_at l ≡ p) (xs' es' : List ℕ) (ns' : List ℤ) (stored : xs' ≡ set xs p (k + 1))
      (long : length es' ≡ length es) (counts : length ns' ≡ length ns) (put : cands_of es' ns' ≡ set (cands_of es ns) k (cand_of w (pos 0))) where
    came : (has_key w.key (keys_of es k) ≡ false) × ComesIn xs es ns k v places w.key l
    came = go (said xs es ns k v places w.key l e)
      where
        go : ((has_key w.key (keys_of es k) ≡ true) × (is_met l ≡ true)) ⊎ ((has_key w.key (keys_of es k) ≡ false) × ((is_vacant l ≡ true) × ComesIn xs es ns k v places w.key l))
            → (has_key w.key (keys_of es k) ≡ false) × ComesIn xs es ns k v places w.key l
        go (inl s) = absurd (one_of l s.1 vacant)
        go (inr s) = (s.0, s.1.1)

    inside : k < length (cands_of es ns)
    inside = omega (arith, room, length-cands es ns)

    pub new_items : items_of es' (k + 1) ≡ with_firsts (items_of es k) (w ∷ [])
    unfolding firsts
    new_items =
        rw came.0
        (ap (items_of es') (add-one k) ∙ items-of es' ns' (suc k) (omega (arith, room, counts))
        ∙ ap (λ (z : List Cand). map (λ (c : Cand). c.item) (take (suc k) z)) put ∙ ap (map (λ (c : Cand). c.item)) (take-suc-set (cands_of es ns) k (cand_of w (pos 0)) inside)
        ∙ map-append (λ (c : Cand). c.item) (take k (cands_of es ns)) (cand_of w (pos 0) ∷ [])
        ∙ ap (λ (z : List Item). z ++ (w ∷ [])) (sym (items-of es ns k v.used)))

    pub new_apart : Apart xs' es' ns' (k + 1)
    unfolding in_range
    new_apart =
        rw (add-one k)
        (record {
          words = omega (arith, v.words, long, counts);
          used = omega (arith, room, counts);
          holds = subst (λ (z : List Cand). Indexes xs' (suc k) z (suc k)) (sym put) (subst (λ (z : List ℕ). Indexes z (suc k) (set (cands_of es ns) k (cand_of w (pos 0))) (suc k)) (sym here) held);
          ranged = subst (λ (z : List Cand). Ranged (suc k) z) (sym put) (each_next (λ (d : Cand). in_range d.count ≡ true) k (cands_of es ns) (cand_of w (pos 0)) inside refl v.ranged);
        })
      where
        i : ComesIn xs es ns k v places w.key l
        i = came.1

        here : xs' ≡ set xs i.place (suc k)
        here = stored ∙ ap (set xs p) (add-one k) ∙ ap (λ (z : ℕ). set xs z (suc k)) (sym place ∙ i.ends)

        held : Indexes (set xs i.place (suc k)) (suc k) (set (cands_of es ns) k (cand_of w (pos 0))) (suc k)
        held = next_in xs k (cands_of es ns) (cand_of w (pos 0)) v.holds inside i.place i.below i.empty i.before i.new

-- ---- the loop

-- what the loop of `take_firsts` keeps: what is left to do gives the answer
pub record TakeInv (src : List ℕ) (n : ℕ) (xs₀ es₀ : List ℕ) (ns₀ : List ℤ) (k₀ : ℕ) (xs es : List ℕ) (ns : List ℤ) (k i : ℕ) : Type 0 where
  pub few : k ≤ k₀ + i
  pub apart : Apart xs es ns k
  pub goes : with_firsts (items_of es k) (items_from src (n - i) i) ≡ with_firsts (items_of es₀ k₀) (items_of src n)

pub take_again : (src : List ℕ) (n : ℕ) (xs₀ es₀ : List ℕ) (ns₀ : List ℤ) (k₀ : ℕ) (xs es : List ℕ) (ns : List ℤ) (k i : ℕ) (xs' es' : List ℕ) (ns' : List ℤ) (k' : ℕ) (w : Item)
    → TakeInv src n xs₀ es₀ ns₀ k₀ xs es ns k i → i < n → w ≡ item_of src i
    → items_of es' k' ≡ with_firsts (items_of es k) (w ∷ []) → Apart xs' es' ns' k' → k' ≤ k + 1 → TakeInv src n xs₀ es₀ ns₀ k₀ xs' es' ns' k' (i + 1)
take_again src n xs₀ es₀ ns₀ k₀ xs es ns k i xs' es' ns' k' w v h is e a b =
    record {
      few = omega (arith, v.few, b);
      apart = a;
      goes =
          ap (λ (z : List Item). with_firsts z (items_from src (n - (i + 1)) (i + 1))) e
          ∙ firsts-behind (items_of es k) (w ∷ []) (items_from src (n - (i + 1)) (i + 1))
          ∙ ap (with_firsts (items_of es k)) (ap (λ (z : Item). z ∷ items_from src (n - (i + 1)) (i + 1)) is ∙ sym (items_left src n i h))
          ∙ v.goes;
    }

pub take_done : (src : List ℕ) (n : ℕ) (xs₀ es₀ : List ℕ) (ns₀ : List ℤ) (k₀ : ℕ) (xs es : List ℕ) (ns : List ℤ) (k i : ℕ) → TakeInv src n xs₀ es₀ ns₀ k₀ xs es ns k i → n ≤ i
    → items_of es k ≡ with_firsts (items_of es₀ k₀) (items_of src n)
unfolding firsts items_from
take_done src n xs₀ es₀ ns₀ k₀ xs es ns k i v h =
    let s : n - i ≡ 0 = omega arith in
    sym (append-nil (items_of es k)) ∙ rw s at v.goes

-- ---- both sources in turn

pub both-taken : (es₀ es₁ es₂ own other : List ℕ) (k₁ k₂ len len₂ : ℕ) → items_of es₁ k₁ ≡ with_firsts (items_of es₀ 0) (items_of own len) → items_of es₂ k₂ ≡ with_firsts (items_of es₁ k₁) (items_of other len₂)
    → items_of es₂ k₂ ≡ firsts [] (items_of own len ++ items_of other len₂)
unfolding items_from
both-taken es₀ es₁ es₂ own other k₁ k₂ len len₂ p q = q ∙ ap (λ (z : List Item). with_firsts z (items_of other len₂)) p ∙ firsts-behind [] (items_of own len) (items_of other len₂)
