-- The indexed offer is the walking offer.
use mathlib.Core.Path.{◌≡◌, refl, sym, ap, ◌∙◌, subst}
use mathlib.Core.Logic.{◌≢◌, ◌⊎◌, inl, inr}
use mathlib.Core.Bool.{Bool, true, false, cond, not}
use mathlib.Core.List.{List}
use Prim.Native.Nat.{ℕ, zero, suc, ◌+◌, ◌-◌, ◌≤◌, ◌<◌}
use native.Mathlib.Omega.{arith}
use native.Mathlib.Numerals.{add-one}
use native.Mathlib.Decide.{ℕ_discrete}
use lib.ListN.{length, get_or, set, take, length-set}
use lib.Seq.{get_or-set_same, get_or-set_other, get_or-take, length-take-le}
use lib.Signed.{lt_z}
use lib.Dec.{ltb}
use borrow.Author.Tests.{lt-ltb, le-ltb, ltb-true, ltb-false}
use Rattle.std.proofs.Common.{Some}
use Rattle.words.specs.Num.{in_range}
use Rattle.heap_moves.specs.Cands.{Cand, no_cand, count_at, recount, up, down, update_at}
use Rattle.heap_moves.proofs.Moved.{each_set, each_next}
use Rattle.heap.specs.declared.Answer.TheVariants.{Displaced, TurnedAway}
use Rattle.heap.specs.Offer.{Table, Offered, rescore, seat, replace_root, displace, offer}
use Rattle.heap.specs.Offer as walking
use Rattle.heap.proofs.Matches.{find_first, find_none}
use Rattle.heap_index.specs.declared.Lookup.TheVariants.{Met}
use Rattle.heap_index.specs.Index.{home, dist, word, key_at, look, insert, remove}
use Rattle.heap_index.specs.inner.Indexes.{Indexes, Ranged}
use Rattle.heap_indexed.specs.Moves.{climb, sink, moved_to, not_moved}
use Rattle.heap_indexed.specs.Offers.{IndexedOffer, rescore_in, seat_in, come_in, replace_in, displace_in, offer_in}
use Rattle.heap_index.proofs.Stands.{stands, other_ends}
use Rattle.heap_index.proofs.Inserts.{Kept, holds-keys, next_in, insert-kept}
use Rattle.heap_index.proofs.Removals.{remove-kept}
use Rattle.heap_indexed.proofs.Paths.{Went, went_done, climb_went, sink_went, settle_went}

-- ---- the first match in array order

take-key : (n : ℕ) (cs : List Cand) (j : ℕ) → j < n → (get_or (take n cs) j no_cand).item.key ≡ key_at cs j
take-key n cs j h = ap (λ (c : Cand). c.item.key) (get_or-take n cs j no_cand h)

-- the entry of a held key, and the place of its first match
place_known : (t : Table) (k i : ℕ) → i < t.len → t.len ≤ length t.cands → ((a b : ℕ) → a < t.len → b < t.len → key_at t.cands a ≡ key_at t.cands b → a ≡ b) → key_at t.cands i ≡ k
    → i ≡ walking.place_of k t
place_known t k i h l d e =
    find_first k (take t.len t.cands) i (omega (arith, length-take-le t.len t.cands l))
    (λ j hj q. let s : j ≡ i = d j i (omega (arith, hj)) h (sym (take-key t.len t.cands j (omega (arith, hj))) ∙ q ∙ sym e) in omega (arith, s, hj)) (take-key t.len t.cands i h ∙ e)

place-new : (t : Table) (k : ℕ) → t.len ≤ length t.cands → ((j : ℕ) → j < t.len → key_at t.cands j ≢ k) → t.len ≡ walking.place_of k t
place-new t k l d =
    sym (length-take-le t.len t.cands l)
    ∙ find_none k (take t.len t.cands) (λ j hj q. let h : j < t.len = omega (arith, hj, length-take-le t.len t.cands l) in d j h (sym (take-key t.len t.cands j h) ∙ q))

-- one of the first n entries has the key, or none has
known : (n : ℕ) (cs : List Cand) (k : ℕ) → ((i : ℕ) × (i < n) × (key_at cs i ≡ k)) ⊎ ((j : ℕ) → j < n → key_at cs j ≢ k)
known zero cs k = inr (λ j h. absurd (omega (arith, h)))
known (suc n) cs k = go (known n cs k) (ℕ_discrete (key_at cs n) k)
  where
    go : ((i : ℕ) × (i < n) × (key_at cs i ≡ k)) ⊎ ((j : ℕ) → j < n → key_at cs j ≢ k) → Dec (key_at cs n ≡ k) → ((i : ℕ) × (i < suc n) × (key_at cs i ≡ k)) ⊎ ((j : ℕ) → j < suc n → key_at cs j ≢ k)
    go (inl s) d = inl (s.0, omega arith, s.2)
    go (inr s) (yes e) = inl (n, omega arith, e)
    go (inr s) (no e) = inr (λ p h. last p h (ℕ_discrete p n))
      where
        last : (p : ℕ) → p < suc n → Dec (p ≡ n) → key_at cs p ≢ k
        last p h (yes q) = λ y. e (sym (ap (key_at cs) q) ∙ y)
        last p h (no q) = s p (omega (arith, q))

-- ---- one offer

-- the outcome is that of the walking offer, and the index of m places holds its table
pub record Agrees (m : ℕ) (w : Offered) (o : IndexedOffer) : Type 0 where
  pub answer : o.answer ≡ w.answer
  pub went : Went m w.table.len w.table.cands o.after

pub record Ready (size : ℕ) (xs : List ℕ) (t : Table) : Type 0 where
  pub holds : Indexes xs t.len t.cands t.len
  pub ranged : Ranged t.len t.cands
  pub long : length t.cands ≡ size
  pub used : t.len ≤ size
  pub room : size < length xs

module _ (size : ℕ) (xs : List ℕ) (t : Table) (c : Cand) (v : Ready size xs t) (some : 0 < size) (within : in_range c.count ≡ true) where
  fits : t.len ≤ length t.cands
  fits = omega (arith, v.long, v.used)

  distinct : (a b : ℕ) → a < t.len → b < t.len → key_at t.cands a ≡ key_at t.cands b → a ≡ b
  distinct a b ha hb e = v.holds.keys a b ha hb (λ y. omega (arith, y, ha)) (λ y. omega (arith, y, hb)) e

  -- a key that is held
  rescored : (i : ℕ) → i < t.len → Went (length xs) t.len (update_at t.len (recount t.cands i c.count) i) (rescore_in xs t i c)
  unfolding rescore_in
  rescored i h =
      settle_went t.len xs (recount t.cands i c.count) i
      (holds-keys (length xs) xs t.len t.cands (recount t.cands i c.count) t.len (λ j hj ne. same j (ℕ_discrete j i)) v.holds)
      (each_set (λ (d : Cand). in_range d.count ≡ true) t.len t.cands i (record { item = (get_or t.cands i no_cand).item; count = c.count }) (omega (arith, fits, h)) within v.ranged) h
      (simp length-set fits)
    where
      same : (j : ℕ) → Dec (j ≡ i) → key_at (recount t.cands i c.count) j ≡ key_at t.cands j
      same j (yes s) =
          ap (key_at (recount t.cands i c.count)) s
          ∙ ap (λ (d : Cand). d.item.key) (get_or-set_same t.cands i (record { item = (get_or t.cands i no_cand).item; count = c.count }) no_cand (omega (arith, fits, h))) ∙ ap (key_at t.cands) (sym s)
      same j (no s) = ap (λ (d : Cand). d.item.key) (get_or-set_other t.cands i j (record { item = (get_or t.cands i no_cand).item; count = c.count }) no_cand s)

  -- a new key, while space is left
  seated : t.len < size → (p : ℕ) → p < length xs → word xs p ≡ 0
      → ((q : ℕ) → q < length xs → dist (length xs) (home (length xs) c.item.key) q < dist (length xs) (home (length xs) c.item.key) p → word xs q ≢ 0)
      → ((j : ℕ) → j < t.len → key_at t.cands j ≢ c.item.key) → Went (length xs) (t.len + 1) (up t.len (set t.cands t.len c) t.len) (seat_in xs t p c)
  unfolding seat_in
  seated h p hp z before new =
      rw (add-one t.len)
      (subst (λ (m : ℕ). Went m (suc t.len) (up t.len (set t.cands t.len c) t.len) (climb t.len (suc t.len) (set xs p (suc t.len)) (set t.cands t.len c) t.len))
      (length-set xs p (suc t.len))
      (climb_went t.len (suc t.len) (set xs p (suc t.len)) (set t.cands t.len c) t.len
      (next_in xs t.len t.cands c v.holds inside p hp z before new)
      (each_next (λ (d : Cand). in_range d.count ≡ true) t.len t.cands c inside within v.ranged) (omega arith) (simp length-set inside)))
    where
      inside : t.len < length t.cands
      inside = omega (arith, h, v.long)

  -- a new key in the root's place
  module _ (filled : 0 < t.len) (new : (j : ℕ) → j < t.len → key_at t.cands j ≢ c.item.key) where
    inside : 0 < length t.cands
    inside = omega (arith, filled, fits)

    other : (j : ℕ) → j ≢ 0 → key_at (set t.cands 0 c) j ≡ key_at t.cands j
    other j ne = ap (λ (d : Cand). d.item.key) (get_or-set_other t.cands 0 j c no_cand ne)

    here : key_at (set t.cands 0 c) 0 ≡ c.item.key
    here = ap (λ (d : Cand). d.item.key) (get_or-set_same t.cands 0 c no_cand inside)

    again : Ranged t.len (set t.cands 0 c)
    again = each_set (λ (d : Cand). in_range d.count ≡ true) t.len t.cands 0 c inside within v.ranged

    came : (ys : List ℕ) → Indexes ys t.len t.cands 0 → t.len < length ys → Went (length ys) t.len (down t.len t.len (set t.cands 0 c) 0) (come_in ys t c)
    unfolding come_in
    came ys w l = go (insert-kept ys t.len (set t.cands 0 c) 0 (holds-keys (length ys) ys t.len t.cands (set t.cands 0 c) 0 (λ j hj ne. other j ne) w) again filled l (λ j hj ne e. new j hj (sym (other j ne) ∙ e ∙ here)))
      where
        go : Kept (length ys) (insert ys t.len (set t.cands 0 c) (key_at (set t.cands 0 c) 0) 0) t.len (set t.cands 0 c) t.len
            → Went (length ys) t.len (down t.len t.len (set t.cands 0 c) 0)
            (cond (not (insert ys t.len (set t.cands 0 c) c.item.key 0).fine) (not_moved (set t.cands 0 c) (insert ys t.len (set t.cands 0 c) c.item.key 0).table)
            (sink t.len t.len (insert ys t.len (set t.cands 0 c) c.item.key 0).table (set t.cands 0 c) 0))
        go k0 =
            let k = subst (λ (x : ℕ). Kept (length ys) (insert ys t.len (set t.cands 0 c) x 0) t.len (set t.cands 0 c) t.len) here k0 in
            rw k.fine
            (subst (λ (m : ℕ). Went m t.len (down t.len t.len (set t.cands 0 c) 0)
            (sink t.len t.len (insert ys t.len (set t.cands 0 c) c.item.key 0).table (set t.cands 0 c) 0)) k.long
            (sink_went t.len t.len (insert ys t.len (set t.cands 0 c) c.item.key 0).table (set t.cands 0 c) 0 k.holds again filled (simp length-set fits)))

    replaced : Went (length xs) t.len (down t.len t.len (set t.cands 0 c) 0) (replace_in xs t c)
    unfolding replace_in
    replaced = go (remove-kept xs t.len t.cands 0 v.holds v.ranged filled (omega (arith, v.used, v.room)))
      where
        go : Kept (length xs) (remove xs t.len t.cands 0) t.len t.cands 0
            → Went (length xs) t.len (down t.len t.len (set t.cands 0 c) 0)
            (cond (not (remove xs t.len t.cands 0).fine) (not_moved t.cands (remove xs t.len t.cands 0).table) (come_in (remove xs t.len t.cands 0).table t c))
        go k =
            rw k.fine
            (subst (λ (m : ℕ). Went m t.len (down t.len t.len (set t.cands 0 c) 0) (come_in (remove xs t.len t.cands 0).table t c)) k.long
            (came (remove xs t.len t.cands 0).table k.holds (omega (arith, k.long, v.used, v.room))))

  -- ---- the whole offer

  agrees_known : (i : ℕ) → i < t.len → key_at t.cands i ≡ c.item.key → Agrees (length xs) (offer size t c) (offer_in size xs t c)
  unfolding offer offer_in rescore
  agrees_known i h e =
      let s = stands xs t.len t.cands t.len v.holds v.ranged i h (λ y. omega (arith, y, h)) in
      let number : word xs s.place - 1 ≡ i = omega (arith, s.number) in
      let found : look xs t.len t.cands c.item.key ≡ Some (Met s.place (dist (length xs) (home (length xs) (key_at t.cands i)) s.place + 1)) = ap (look xs t.len t.cands) (sym e) ∙ s.ends in
      rw (found, number, ← place_known t c.item.key i h fits distinct e, lt-ltb i t.len h) (record { answer = refl; went = rescored i h })

  agrees_full : 0 < t.len → ((j : ℕ) → j < t.len → key_at t.cands j ≢ c.item.key) → Agrees (length xs) (displace t c) (displace_in xs t c)
  unfolding displace replace_root displace_in
  agrees_full f new = rw (v.ranged 0 f) (go (lt_z (count_at t.cands 0) c.count))
    where
      go : (a : Bool)
          → Agrees (length xs)
          (cond a (record { table = record { cands = down t.len t.len (set t.cands 0 c) 0; len = t.len }; answer = Displaced (key_at t.cands 0) }) (record { table = t; answer = TurnedAway }))
          (cond a (record { after = replace_in xs t c; answer = Displaced (key_at t.cands 0) }) (record { after = moved_to t.cands xs; answer = TurnedAway }))
      go true = record { answer = refl; went = replaced f new }
      go false = record { answer = refl; went = went_done t.len t.cands xs v.holds v.ranged }

  agrees_new : ((j : ℕ) → j < t.len → key_at t.cands j ≢ c.item.key) → Agrees (length xs) (offer size t c) (offer_in size xs t c)
  unfolding offer seat offer_in
  agrees_new new = go (ltb t.len size) refl
    where
      go : (b : Bool) → ltb t.len size ≡ b → Agrees (length xs) (offer size t c) (offer_in size xs t c)
      go true q =
          let e = other_ends xs t.len t.cands t.len v.holds v.ranged c.item.key (omega (arith, v.used, v.room)) (λ j hj ne. new j hj) in
          rw (e.ends, ← place-new t c.item.key fits new, le-ltb t.len t.len (omega arith), q)
          (record { answer = refl; went = seated (ltb-true t.len size q) e.place e.below e.empty e.before new })
      go false q =
          let e = other_ends xs t.len t.cands t.len v.holds v.ranged c.item.key (omega (arith, v.used, v.room)) (λ j hj ne. new j hj) in
          rw (e.ends, ← place-new t c.item.key fits new, le-ltb t.len t.len (omega arith), q)
          (agrees_full (omega (arith, ltb-false t.len size q, some)) new)

  pub offer_agrees : Agrees (length xs) (offer size t c) (offer_in size xs t c)
  offer_agrees = go (known t.len t.cands c.item.key)
    where
      go : ((i : ℕ) × (i < t.len) × (key_at t.cands i ≡ c.item.key)) ⊎ ((j : ℕ) → j < t.len → key_at t.cands j ≢ c.item.key) → Agrees (length xs) (offer size t c) (offer_in size xs t c)
      go (inl s) = agrees_known s.0 s.1 s.2
      go (inr s) = agrees_new s
