-- First entries: what was seen matters only by its keys. Assumes nothing.
use mathlib.Core.Path.{◌≡◌, refl, sym, ap, ap₂, ◌∙◌}
use Prim.Native.Nat.{ℕ, zero, suc, ◌+◌, ◌*◌, ◌≤◌, ◌<◌}
use native.Mathlib.Omega.{arith}
use native.Mathlib.Numerals.{add-one}
use mathlib.Core.Bool.{Bool, true, false, cond, ◌||◌}
use mathlib.Core.List.{List, [], ◌∷◌, ◌++◌, map, append_assoc}
use lib.ListN.{length, get_or, take, drop, replicate, length-replicate}
use lib.IntN.{ℤ, pos}
use lib.Seq.{length-take-le}
use lib.Dec.{eqb}
use borrow.Author.Tests.{eqb-true}
use Rattle.std.specs.Prelude.{Option, None, Some, is_some, unwrap_or, IfSome}
use Rattle.std.proofs.lemmas.List.{get_or-take}
use Rattle.heap_moves.specs.declared.Item.{Item}
use Rattle.heap_moves.specs.Cands.{Cand}
use Rattle.heap_moves.specs.Flat.{item_of, cands_of}
use Rattle.heap_moves.proofs.Views.{item-drop, item_path, length-cands}
use Rattle.heap.specs.Offer.{find}
use Rattle.heap.specs.inner.Slices.{table_of}
use Rattle.layer.specs.Merge.{has_key, firsts, items}
use Rattle.layer.specs.inner.Gather.{item_keys, items_from, items_of, keys_of}

-- ---- or

or_swap : (a b c : Bool) → ((a || b) || c) ≡ (b || (a || c))
or_swap true true c = refl
or_swap true false c = refl
or_swap false b c = refl

or_last : (a b e : Bool) → (e || (a || b)) ≡ (a || (b || e))
or_last true b true = refl
or_last true b false = refl
or_last false true true = refl
or_last false true false = refl
or_last false false true = refl
or_last false false false = refl

or_assoc : (a b c : Bool) → (a || (b || c)) ≡ ((a || b) || c)
or_assoc true b c = refl
or_assoc false b c = refl

or-none : (a : Bool) → (a || false) ≡ a
or-none true = refl
or-none false = refl

-- ---- keys seen

abbrev pub Same : List ℕ → List ℕ → Type 0
Same s t = (k : ℕ) → has_key k s ≡ has_key k t

-- a key that is known is nothing new
has_known : (k x : ℕ) (s : List ℕ) → has_key x s ≡ true → has_key k s ≡ (eqb x k || has_key k s)
has_known k x s h = go (eqb x k) refl
  where
    go : (b : Bool) → eqb x k ≡ b → has_key k s ≡ (b || has_key k s)
    go true e = sym (ap (λ (z : ℕ). has_key z s) (eqb-true x k e)) ∙ h
    go false e = refl

firsts_same : (s t : List ℕ) (ws : List Item) → Same s t → firsts s ws ≡ firsts t ws
unfolding firsts has_key
firsts_same s t [] h = refl
firsts_same s t (w ∷ ws) h =
    rw (h w.key) (ap₂ (λ (x y : List Item). cond (has_key w.key t) x (w ∷ y)) (firsts_same s t ws h) (firsts_same (w.key ∷ s) (w.key ∷ t) ws (λ k. rw (h k))))

-- the first entries of one list and another are those of the one, and of the other without the keys of the one
firsts_then : (s t : List ℕ) (xs ys : List Item) → ((k : ℕ) → has_key k t ≡ (has_key k s || has_key k (item_keys xs))) → firsts s (xs ++ ys) ≡ firsts s xs ++ firsts t ys
unfolding firsts has_key
firsts_then s t [] ys h = firsts_same s t ys (λ k. sym (h k ∙ or-none (has_key k s)))
firsts_then s t (a ∷ xs) ys h = go (has_key a.key s) refl (firsts_then s t xs ys) (firsts_then (a.key ∷ s) t xs ys)
  where
    go : (b : Bool) → has_key a.key s ≡ b → (((k : ℕ) → has_key k t ≡ (has_key k s || has_key k (item_keys xs))) → firsts s (xs ++ ys) ≡ firsts s xs ++ firsts t ys)
        → (((k : ℕ) → has_key k t ≡ ((eqb a.key k || has_key k s) || has_key k (item_keys xs))) → firsts (a.key ∷ s) (xs ++ ys) ≡ firsts (a.key ∷ s) xs ++ firsts t ys)
        → cond b (firsts s (xs ++ ys)) (a ∷ firsts (a.key ∷ s) (xs ++ ys)) ≡ cond b (firsts s xs) (a ∷ firsts (a.key ∷ s) xs) ++ firsts t ys
    go true e i j = i (λ k. h k ∙ sym (or_swap (eqb a.key k) (has_key k s) (has_key k (item_keys xs))) ∙ ap (λ (z : Bool). z || has_key k (item_keys xs)) (sym (has_known k a.key s e)))
    go false e i j = ap (λ (z : List Item). a ∷ z) (j (λ k. h k ∙ sym (or_swap (eqb a.key k) (has_key k s) (has_key k (item_keys xs)))))

pub firsts-append : (xs ys : List Item) → firsts [] (xs ++ ys) ≡ firsts [] xs ++ firsts (item_keys xs) ys
unfolding has_key
firsts-append xs ys = firsts_then [] (item_keys xs) xs ys (λ k. refl)

-- the keys of two lists of entries
has_both : (k : ℕ) (xs ys : List Item) → has_key k (item_keys (xs ++ ys)) ≡ (has_key k (item_keys xs) || has_key k (item_keys ys))
unfolding has_key
has_both k [] ys = refl
has_both k (a ∷ xs) ys = ap (λ (z : Bool). eqb a.key k || z) (has_both k xs ys) ∙ or_assoc (eqb a.key k) (has_key k (item_keys xs)) (has_key k (item_keys ys))

-- with what was seen the first entries have the keys that all of them have
has-firsts : (k : ℕ) (s : List ℕ) (xs : List Item) → (has_key k s || has_key k (item_keys (firsts s xs))) ≡ (has_key k s || has_key k (item_keys xs))
unfolding firsts has_key
has-firsts k s [] = refl
has-firsts k s (a ∷ xs) = go (has_key a.key s) refl (has-firsts k s xs) (has-firsts k (a.key ∷ s) xs)
  where
    go : (b : Bool) → has_key a.key s ≡ b → (has_key k s || has_key k (item_keys (firsts s xs))) ≡ (has_key k s || has_key k (item_keys xs))
        → ((eqb a.key k || has_key k s) || has_key k (item_keys (firsts (a.key ∷ s) xs))) ≡ ((eqb a.key k || has_key k s) || has_key k (item_keys xs))
        → (has_key k s || has_key k (item_keys (cond b (firsts s xs) (a ∷ firsts (a.key ∷ s) xs)))) ≡ (has_key k s || (eqb a.key k || has_key k (item_keys xs)))
    go true e i j = i ∙ ap (λ (z : Bool). z || has_key k (item_keys xs)) (has_known k a.key s e) ∙ or_swap (eqb a.key k) (has_key k s) (has_key k (item_keys xs))
    go false e i j =
        sym (or_swap (eqb a.key k) (has_key k s) (has_key k (item_keys (firsts (a.key ∷ s) xs)))) ∙ j
        ∙ or_swap (eqb a.key k) (has_key k s) (has_key k (item_keys xs))

-- entries of distinct keys, with the first entries of other keys behind them: of two lists in turn as of both at once
pub firsts-behind : (ws xs ys : List Item)
    → (ws ++ firsts (item_keys ws) xs) ++ firsts (item_keys (ws ++ firsts (item_keys ws) xs)) ys ≡ ws ++ firsts (item_keys ws) (xs ++ ys)
firsts-behind ws xs ys =
    append_assoc ws (firsts (item_keys ws) xs) (firsts (item_keys (ws ++ firsts (item_keys ws) xs)) ys)
    ∙ ap (λ (z : List Item). ws ++ z)
    (sym (firsts_then (item_keys ws) (item_keys (ws ++ firsts (item_keys ws) xs)) xs ys (λ k. has_both k ws (firsts (item_keys ws) xs) ∙ has-firsts k (item_keys ws) xs)))

-- no more first entries than entries
pub firsts-few : (s : List ℕ) (ws : List Item) → length (firsts s ws) ≤ length ws
unfolding firsts
firsts-few s [] = omega arith
firsts-few s (w ∷ ws) = go (has_key w.key s) (firsts-few s ws) (firsts-few (w.key ∷ s) ws)
  where
    go : (b : Bool) → length (firsts s ws) ≤ length ws → length (firsts (w.key ∷ s) ws) ≤ length ws → length (cond b (firsts s ws) (w ∷ firsts (w.key ∷ s) ws)) ≤ suc (length ws)
    go true i j = omega arith
    go false i j = omega arith

-- ---- entries of a slice

pub items-many : (es : List ℕ) (n i : ℕ) → length (items_from es n i) ≡ n
unfolding items_from
items-many es zero i = refl
items-many es (suc n) i = ap suc (items-many es n (suc i))

from_drop : (es : List ℕ) (n i : ℕ) → items_from (drop 4 es) n i ≡ items_from es n (suc i)
unfolding items_from
from_drop es zero i = refl
from_drop es (suc n) i = ap₂ (λ (x : Item) (z : List Item). x ∷ z) (item-drop es i) (from_drop es n (suc i))

pub items-of : (es : List ℕ) (ns : List ℤ) (n : ℕ) → n ≤ length ns → items_of es n ≡ map (λ (c : Cand). c.item) (take n (cands_of es ns))
unfolding items_from cands_of
items-of es ns zero h = refl
items-of es [] (suc n) h = absurd (omega arith)
items-of es (x ∷ ns) (suc n) h = ap (λ (z : List Item). item_of es 0 ∷ z) (sym (from_drop es n 0) ∙ items-of (drop 4 es) ns n (omega arith))

-- the candidates of a table are the entries of its slice
pub items-table : (es : List ℕ) (ns : List ℤ) (n : ℕ) → n ≤ length ns → items (table_of es ns n) ≡ items_of es n
unfolding items
items-table es ns n h = sym (items-of es ns n h)

-- entries in words that two slices begin with
pub front_items : (es fs : List ℕ) (k n i : ℕ) → take k fs ≡ take k es → 4 * (i + n) ≤ k → items_from fs n i ≡ items_from es n i
unfolding items_from
front_items es fs k zero i f h = refl
front_items es fs k (suc n) i f h =
    ap₂ (λ (x : Item) (z : List Item). x ∷ z)
    (item_path (at (4 * i) (omega arith)) (at (4 * i + 1) (omega arith)) (at (4 * i + 2) (omega arith)) (at (4 * i + 3) (omega arith)))
    (front_items es fs k n (suc i) f (omega arith))
  where
    at : (j : ℕ) → j < k → get_or fs j 0 ≡ get_or es j 0
    at j b = sym (get_or-take k fs j 0 b) ∙ ap (λ (l : List ℕ). get_or l j 0) f ∙ get_or-take k es j 0 b

-- ---- a search says whether a key was seen

found-has : (k : ℕ) (cs : List Cand) → find k cs < length cs → has_key k (item_keys (map (λ (c : Cand). c.item) cs)) ≡ true
unfolding find has_key
found-has k [] h = absurd (omega arith)
found-has k (c ∷ cs) h = go (eqb c.item.key k) h (found-has k cs)
  where
    go : (b : Bool) → cond b zero (suc (find k cs)) < suc (length cs) → (find k cs < length cs → has_key k (item_keys (map (λ (c : Cand). c.item) cs)) ≡ true)
        → (b || has_key k (item_keys (map (λ (c : Cand). c.item) cs))) ≡ true
    go true h i = refl
    go false h i = i (omega arith)

missed_has : (k : ℕ) (cs : List Cand) → length cs ≤ find k cs → has_key k (item_keys (map (λ (c : Cand). c.item) cs)) ≡ false
unfolding find has_key
missed_has k [] h = refl
missed_has k (c ∷ cs) h = go (eqb c.item.key k) h (missed_has k cs)
  where
    go : (b : Bool) → suc (length cs) ≤ cond b zero (suc (find k cs)) → (length cs ≤ find k cs → has_key k (item_keys (map (λ (c : Cand). c.item) cs)) ≡ false)
        → (b || has_key k (item_keys (map (λ (c : Cand). c.item) cs))) ≡ false
    go true h i = absurd (omega arith)
    go false h i = i (omega arith)

-- where a search ends: n if no entry has the key
abbrev Finds : List ℕ → ℕ → ℕ → ℕ → Type 0
Finds es n k r = (ns : List ℤ) → n ≤ length ns → r ≡ find k (take n (cands_of es ns))

module _ (es : List ℕ) (n k r : ℕ) (f : Finds es n k r) where
  zeros : List ℤ
  zeros = replicate n (pos 0)

  enough : n ≤ length zeros
  unfolding zeros
  enough = omega (arith, length-replicate n (pos 0))

  at : r ≡ find k (take n (cands_of es zeros))
  at = f zeros enough

  long : length (take n (cands_of es zeros)) ≡ n
  long = length-take-le n (cands_of es zeros) (omega (arith, length-cands es zeros, enough))

  find-has : r < n → has_key k (keys_of es n) ≡ true
  find-has h = rw (items-of es zeros n enough) (found-has k (take n (cands_of es zeros)) (omega (arith, at, long)))

  find_hasnt : n ≤ r → has_key k (keys_of es n) ≡ false
  find_hasnt h = rw (items-of es zeros n enough) (missed_has k (take n (cands_of es zeros)) (omega (arith, at, long)))

-- what `find` ensures says whether an entry has the key
pub found_is : (es : List ℕ) (n k : ℕ) (r : Option ℕ) → Finds es n k (unwrap_or r n) → IfSome r (λ i. i < n) → is_some r ≡ has_key k (keys_of es n)
found_is es n k None f w = sym (find_hasnt es n k n f (omega arith))
found_is es n k (Some i) f w = sym (find-has es n k i f w)

-- one entry more
has-next : (es : List ℕ) (k n i : ℕ) → has_key k (item_keys (items_from es (suc n) i)) ≡ (has_key k (item_keys (items_from es n i)) || eqb (get_or es (4 * (i + n)) 0) k)
unfolding items_from has_key
has-next es k zero i = or-none (eqb (get_or es (4 * i) 0) k) ∙ ap (λ (z : ℕ). eqb (get_or es (4 * z) 0) k) e
  where
    e : i ≡ i + 0
    e = omega arith
has-next es k (suc n) i =
    ap (λ (z : Bool). eqb (get_or es (4 * i) 0) k || z) (has-next es k n (suc i) ∙ ap (λ (z : ℕ). has_key k (item_keys (items_from es n (suc i))) || eqb (get_or es (4 * z) 0) k) e)
    ∙ or_assoc (eqb (get_or es (4 * i) 0) k) (has_key k (item_keys (items_from es n (suc i)))) (eqb (get_or es (4 * (i + suc n)) 0) k)
  where
    e : suc i + n ≡ i + suc n
    e = omega arith

-- s has exactly the keys of the first m entries of one slice and of the first i of another
abbrev pub Seen : List ℕ → ℕ → List ℕ → ℕ → List ℕ → Type 0
Seen bef m src i s = (k : ℕ) → has_key k s ≡ (has_key k (keys_of bef m) || has_key k (keys_of src i))

pub next-key : (es : List ℕ) (k i : ℕ) → has_key k (keys_of es (i + 1)) ≡ (has_key k (keys_of es i) || eqb (get_or es (4 * i) 0) k)
next-key es k i = ap (λ (z : ℕ). has_key k (keys_of es z)) (add-one i) ∙ has-next es k i 0 ∙ ap (λ (z : ℕ). has_key k (keys_of es i) || eqb (get_or es (4 * z) 0) k) e
  where
    e : 0 + i ≡ i
    e = omega arith

pub seen_none : (bef : List ℕ) (m : ℕ) (src : List ℕ) → Seen bef m src 0 (keys_of bef m)
unfolding items_from has_key
seen_none bef m src k = sym (or-none (has_key k (keys_of bef m)))

pub seen_known : (bef : List ℕ) (m : ℕ) (src : List ℕ) (i : ℕ) (s : List ℕ) → Seen bef m src i s → has_key (get_or src (4 * i) 0) s ≡ true → Seen bef m src (i + 1) s
seen_known bef m src i s h e k =
    has_known k (get_or src (4 * i) 0) s e ∙ ap (λ (z : Bool). eqb (get_or src (4 * i) 0) k || z) (h k)
    ∙ or_last (has_key k (keys_of bef m)) (has_key k (keys_of src i)) (eqb (get_or src (4 * i) 0) k) ∙ ap (λ (z : Bool). has_key k (keys_of bef m) || z) (sym (next-key src k i))

pub seen_new : (bef : List ℕ) (m : ℕ) (src : List ℕ) (i : ℕ) (s : List ℕ) → Seen bef m src i s → Seen bef m src (i + 1) (get_or src (4 * i) 0 ∷ s)
unfolding has_key
seen_new bef m src i s h k =
    ap (λ (z : Bool). eqb (get_or src (4 * i) 0) k || z) (h k)
    ∙ or_last (has_key k (keys_of bef m)) (has_key k (keys_of src i)) (eqb (get_or src (4 * i) 0) k) ∙ ap (λ (z : Bool). has_key k (keys_of bef m) || z) (sym (next-key src k i))
