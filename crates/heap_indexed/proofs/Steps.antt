-- Each call of the code, from what its callees ensure.
use mathlib.Core.Path.{◌≡◌, refl, sym, ap, ap₂, ◌∙◌}
use mathlib.Core.Bool.{Bool, true, false, cond, not}
use mathlib.Core.List.{List}
use Prim.Native.Nat.{ℕ, zero, suc, ◌+◌, ◌-◌, ◌*◌, ◌^◌, ◌≤◌, ◌<◌}
use native.Mathlib.Omega.{arith}
use native.Mathlib.Numerals.{add-one}
use lib.ListN.{length, get_or, set}
use lib.IntN.{ℤ, pos}
use lib.Signed.{lt_z, mag}
use lib.Dec.{eqb}
use mir.Syntax.{w64}
use mir.Val.{to_z, of_z}
use mir.Facts.{to_z-of_z}
use borrow.Author.Rules.{sfits_of}
use borrow.Author.Tests.{eq-eqb, ne_eqb, lt-ltb, le-ltb}
use Rattle.std.proofs.Common.{Option, Some, None}
use Rattle.words.specs.Num.{in_range}
use Rattle.heap_moves.specs.declared.Item.{Item}
use Rattle.heap_moves.specs.Cands.{Cand, count_at, recount, smaller, swapped, parent, lower}
use Rattle.heap_moves.specs.Flat.{cands_of, cand_of}
use Rattle.heap_moves.proofs.Views.{cand_at, count_at_lem, recount-view}
use Rattle.heap.specs.declared.Answer.TheVariants.{Rescored, Seated, Displaced, TurnedAway}
use Rattle.heap.specs.inner.Slices.{table_of}
use Rattle.heap_index.specs.declared.Lookup.{Lookup}
use Rattle.heap_index.specs.declared.Lookup.TheVariants.{Met, Vacant}
use Rattle.heap_index.specs.Index.{word, key_at, look, insert, remove, exchange}
use Rattle.heap_indexed.specs.Moves.{IndexedCands, child_in, swap_in, climb, sink, resettle, moved_to, not_moved}
use Rattle.heap_indexed.specs.Offers.{IndexedOffer, rescore_in, seat_in, come_in, replace_in, displace_in, offer_by, offer_in}
use Rattle.heap_indexed.specs.inner.Slices.{cands_with}

pub layer_path : {b b' : Bool} {cs ds : List Cand} {xs ys : List ℕ} → b ≡ b' → cs ≡ ds → xs ≡ ys
    → ◌≡◌ {A = IndexedCands} (record { fine = b; cands = cs; index = xs }) (record { fine = b'; cands = ds; index = ys })
layer_path p q r = λ i. record { fine = p i; cands = q i; index = r i }

-- ---- one candidate, and one swap

pub child_yes : (es : List ℕ) (ns : List ℤ) (n j : ℕ) (b : Bool) → j < n → n ≤ length ns → b ≡ in_range (get_or ns j (pos 0)) → b ≡ child_in n (cands_of es ns) j
unfolding child_in
child_yes es ns n j b h l e = rw (lt-ltb j n h, count_at_lem es ns j (omega arith)) e

pub child_no : (es : List ℕ) (ns : List ℤ) (n j : ℕ) → n ≤ j → true ≡ child_in n (cands_of es ns) j
unfolding child_in
child_no es ns n j h = rw (le-ltb j n h)

child_there : (n : ℕ) (cs : List Cand) (j : ℕ) → j < n → child_in n cs j ≡ in_range (count_at cs j)
unfolding child_in
child_there n cs j h = rw (lt-ltb j n h)

pub swap_is : (n : ℕ) (xs ys : List ℕ) (cs ds : List Cand) (i j : ℕ) (b : Bool) → b ≡ (exchange xs n cs i j).fine → ys ≡ (exchange xs n cs i j).table → ds ≡ cond b (swapped cs i j) cs
    → ◌≡◌ {A = IndexedCands} (record { fine = b; cands = ds; index = ys }) (swap_in n xs cs i j)
swap_is n xs ys cs ds i j b e f g = layer_path e (g ∙ ap (λ (x : Bool). cond x (swapped cs i j) cs) e) f

-- a result that is known
pub said : (b t : Bool) (cs : List Cand) (xs : List ℕ) (s : IndexedCands) → b ≡ t → record { fine = b; cands = cs; index = xs } ≡ s → record { fine = t; cands = cs; index = xs } ≡ s
said b t cs xs s e q = sym (layer_path e refl refl) ∙ q

-- ---- moving up: what is left to do gives the goal

pub record Climbing (goal : IndexedCands) (n : ℕ) (xs : List ℕ) (cs : List Cand) (i : ℕ) : Type 0 where
  pub fuel : ℕ
  pub enough : i ≤ fuel
  pub goes : climb fuel n xs cs i ≡ goal

module _ (goal : IndexedCands) (n : ℕ) (xs : List ℕ) (cs : List Cand) (i : ℕ) (v : Climbing goal n xs cs i) where
  pub climb-top : i ≡ 0 → moved_to cs xs ≡ goal
  unfolding climb
  climb-top z = go v.fuel v.goes
    where
      go : (k : ℕ) → climb k n xs cs i ≡ goal → moved_to cs xs ≡ goal
      go zero g = g
      go (suc k) g = rw (eq-eqb i 0 z) at g

  module _ (h : 0 < i) (l : i < n) (p : ℕ) (e : p ≡ parent i) where
    pub climb-range : child_in n cs p ≡ false → not_moved cs xs ≡ goal
    unfolding climb
    climb-range w = go v.fuel v.enough v.goes
      where
        r : in_range (count_at cs (parent i)) ≡ false
        r = sym (child_there n cs (parent i) (omega arith)) ∙ ap (child_in n cs) (sym e) ∙ w

        go : (k : ℕ) → i ≤ k → climb k n xs cs i ≡ goal → not_moved cs xs ≡ goal
        go zero q g = absurd (omega arith)
        go (suc k) q g = rw (ne_eqb i 0 (λ z. omega (arith, z, h)), r) at g

    module _ (w : child_in n cs p ≡ true) where
      right : in_range (count_at cs (parent i)) ≡ true
      right = sym (child_there n cs (parent i) (omega arith)) ∙ ap (child_in n cs) (sym e) ∙ w

      pub climb-stays : smaller cs i p ≡ false → moved_to cs xs ≡ goal
      unfolding climb
      climb-stays t = go v.fuel v.enough v.goes
        where
          s : smaller cs i (parent i) ≡ false
          s = ap (smaller cs i) (sym e) ∙ t

          go : (k : ℕ) → i ≤ k → climb k n xs cs i ≡ goal → moved_to cs xs ≡ goal
          go zero q g = absurd (omega arith)
          go (suc k) q g = rw (ne_eqb i 0 (λ z. omega (arith, z, h)), right, s) at g

      module _ (t : smaller cs i p ≡ true) (ly : IndexedCands) (sw : ly ≡ swap_in n xs cs p i) where
        less : smaller cs i (parent i) ≡ true
        less = ap (smaller cs i) (sym e) ∙ t

        same : ly ≡ swap_in n xs cs (parent i) i
        same = sw ∙ ap (λ (x : ℕ). swap_in n xs cs x i) e

        pub climb_stuck : ly.fine ≡ false → ly ≡ goal
        unfolding climb
        climb_stuck b = go v.fuel v.enough v.goes
          where
            f : (exchange xs n cs (parent i) i).fine ≡ false
            f = ap (λ (x : IndexedCands). x.fine) (sym same) ∙ b

            go : (k : ℕ) → i ≤ k → climb k n xs cs i ≡ goal → ly ≡ goal
            go zero q g = absurd (omega arith)
            go (suc k) q g = same ∙ rw f ((rw (ne_eqb i 0 (λ z. omega (arith, z, h)), right, less, f) at g))

        pub climb_again : ly.fine ≡ true → Climbing goal n ly.index ly.cands p
        unfolding climb
        climb_again b = go v.fuel v.enough v.goes
          where
            f : (swap_in n xs cs (parent i) i).fine ≡ true
            f = ap (λ (x : IndexedCands). x.fine) (sym same) ∙ b

            go : (k : ℕ) → i ≤ k → climb k n xs cs i ≡ goal → Climbing goal n ly.index ly.cands p
            go zero q g = absurd (omega arith)
            go (suc k) q g =
                record {
                  fuel = k;
                  enough = omega (arith, e);
                  goes =
                      ap (λ (x : IndexedCands). climb k n x.index x.cands p) same
                      ∙ ap (λ (x : ℕ). climb k n (swap_in n xs cs (parent i) i).index (swap_in n xs cs (parent i) i).cands x) e
                      ∙ lift (swap_in n xs cs (parent i) i) k f (rw (ne_eqb i 0 (λ z. omega (arith, z, h)), right, less) at g);
                }
              where
                lift : (s : IndexedCands) (k : ℕ) → s.fine ≡ true → cond (not s.fine) s (climb k n s.index s.cands (parent i)) ≡ goal → climb k n s.index s.cands (parent i) ≡ goal
                lift s k f g = rw f at g

-- ---- moving down

pub record Sinking (goal : IndexedCands) (n : ℕ) (xs : List ℕ) (cs : List Cand) (i : ℕ) : Type 0 where
  pub here : i < n
  pub fuel : ℕ
  pub enough : n ≤ i + fuel
  pub goes : sink fuel n xs cs i ≡ goal

module _ (goal : IndexedCands) (n : ℕ) (xs : List ℕ) (cs : List Cand) (i : ℕ) (v : Sinking goal n xs cs i) where
  pub sink-left : child_in n cs (2 * i + 1) ≡ false → not_moved cs xs ≡ goal
  unfolding sink
  sink-left w = go v.fuel v.enough v.goes
    where
      go : (k : ℕ) → n ≤ i + k → sink k n xs cs i ≡ goal → not_moved cs xs ≡ goal
      go zero q g = absurd (omega (arith, v.here))
      go (suc k) q g = rw w at g

  pub sink-right : child_in n cs (2 * i + 1) ≡ true → child_in n cs (2 * i + 2) ≡ false → not_moved cs xs ≡ goal
  unfolding sink
  sink-right u w = go v.fuel v.enough v.goes
    where
      go : (k : ℕ) → n ≤ i + k → sink k n xs cs i ≡ goal → not_moved cs xs ≡ goal
      go zero q g = absurd (omega (arith, v.here))
      go (suc k) q g = rw (u, w) at g

  module _ (u : child_in n cs (2 * i + 1) ≡ true) (w : child_in n cs (2 * i + 2) ≡ true) (j : ℕ) (e : j ≡ lower n cs i) where
    pub sink-stays : j ≡ i → moved_to cs xs ≡ goal
    unfolding sink
    sink-stays s = go v.fuel v.enough v.goes
      where
        go : (k : ℕ) → n ≤ i + k → sink k n xs cs i ≡ goal → moved_to cs xs ≡ goal
        go zero q g = absurd (omega (arith, v.here))
        go (suc k) q g = rw (u, w, eq-eqb (lower n cs i) i (sym e ∙ s)) at g

    module _ (ne : j ≡ i → ⊥) (ly : IndexedCands) (sw : ly ≡ swap_in n xs cs i j) where
      moves : eqb (lower n cs i) i ≡ false
      moves = ne_eqb (lower n cs i) i (λ y. ne (e ∙ y))

      as_lower : ly ≡ swap_in n xs cs i (lower n cs i)
      as_lower = sw ∙ ap (λ (x : ℕ). swap_in n xs cs i x) e

      pub sink_stuck : ly.fine ≡ false → ly ≡ goal
      unfolding sink
      sink_stuck b = go v.fuel v.enough v.goes
        where
          f : (exchange xs n cs i (lower n cs i)).fine ≡ false
          f = ap (λ (x : IndexedCands). x.fine) (sym as_lower) ∙ b

          go : (k : ℕ) → n ≤ i + k → sink k n xs cs i ≡ goal → ly ≡ goal
          go zero q g = absurd (omega (arith, v.here))
          go (suc k) q g = as_lower ∙ rw f (rw (u, w, moves, f) at g)

      pub sink_again : ly.fine ≡ true → i ≤ j → j < n → Sinking goal n ly.index ly.cands j
      unfolding sink
      sink_again b low hj = go v.fuel v.enough v.goes
        where
          f : (swap_in n xs cs i (lower n cs i)).fine ≡ true
          f = ap (λ (x : IndexedCands). x.fine) (sym as_lower) ∙ b

          lift : (s : IndexedCands) (k : ℕ) → s.fine ≡ true → cond (not s.fine) s (sink k n s.index s.cands (lower n cs i)) ≡ goal → sink k n s.index s.cands (lower n cs i) ≡ goal
          lift s k f g = rw f at g

          go : (k : ℕ) → n ≤ i + k → sink k n xs cs i ≡ goal → Sinking goal n ly.index ly.cands j
          go zero q g = absurd (omega (arith, v.here))
          go (suc k) q g =
              record {
                here = hj;
                fuel = k;
                enough = omega (arith, low, ne);
                goes =
                    ap (λ (x : IndexedCands). sink k n x.index x.cands j) as_lower
                    ∙ ap (λ (x : ℕ). sink k n (swap_in n xs cs i (lower n cs i)).index (swap_in n xs cs i (lower n cs i)).cands x) e
                    ∙ lift (swap_in n xs cs i (lower n cs i)) k f (rw (u, w, moves) at g);
              }

-- ---- down, or else up

module _ (n : ℕ) (xs : List ℕ) (cs : List Cand) (i : ℕ) where
  pub settle-left : child_in n cs (2 * i + 1) ≡ false → not_moved cs xs ≡ resettle n xs cs i
  unfolding resettle
  settle-left u = rw u

  pub settle-right : child_in n cs (2 * i + 1) ≡ true → child_in n cs (2 * i + 2) ≡ false → not_moved cs xs ≡ resettle n xs cs i
  unfolding resettle
  settle-right u w = rw (u, w)

  module _ (u : child_in n cs (2 * i + 1) ≡ true) (w : child_in n cs (2 * i + 2) ≡ true) (j : ℕ) (e : j ≡ lower n cs i) (ly : IndexedCands) where
    pub settle-up : j ≡ i → ly ≡ climb i n xs cs i → ly ≡ resettle n xs cs i
    unfolding resettle
    settle-up s q = rw (u, w, eq-eqb (lower n cs i) i (sym e ∙ s)) q

    pub settle-down : (j ≡ i → ⊥) → ly ≡ sink n n xs cs i → ly ≡ resettle n xs cs i
    unfolding resettle
    settle-down s q = rw (u, w, ne_eqb (lower n cs i) i (λ y. s (e ∙ y))) q

-- ---- the four things that an offer does. A signed argument that is handed on comes back as v', with v' ≡ v.

module _ (xs es : List ℕ) (ns : List ℤ) (len : ℕ) (w : Item) (v v' : ℤ) (same_v : v' ≡ v) where
  pub rescore_is : (i : ℕ) (ly : IndexedCands) → ly ≡ resettle len xs (cands_of es (set ns i v')) i → ly ≡ rescore_in xs (table_of es ns len) i (cand_of w v)
  unfolding rescore_in
  rescore_is i ly q = q ∙ ap (λ (z : List Cand). resettle len xs z i) (recount-view es ns i v' ∙ ap (recount (cands_of es ns) i) same_v)

  pub seat_is : (p : ℕ) (ds : List Cand) (ly : IndexedCands) → ds ≡ set (cands_of es ns) len (cand_of w v') → ly ≡ climb len (len + 1) (set xs p (len + 1)) ds len → ly ≡ seat_in xs (table_of es ns len) p (cand_of w v)
  unfolding seat_in
  seat_is p ds ly e q =
      q ∙ ap (λ (z : List Cand). climb len (len + 1) (set xs p (len + 1)) z len) (e ∙ ap (λ (x : ℤ). set (cands_of es ns) len (cand_of w x)) same_v)
      ∙ ap (λ (x : ℕ). climb len (len + 1) (set xs p x) (set (cands_of es ns) len (cand_of w v)) len) (add-one len)

  -- the new key comes in for the root's, which is out
  module _ (ds : List Cand) (ed : ds ≡ set (cands_of es ns) 0 (cand_of w v')) (d : Bool) (ys : List ℕ) (eg : d ≡ (insert xs len ds w.key 0).fine) (ey : ys ≡ (insert xs len ds w.key 0).table) where
    put : ds ≡ set (cands_of es ns) 0 (cand_of w v)
    put = ed ∙ ap (λ (x : ℤ). set (cands_of es ns) 0 (cand_of w x)) same_v

    at-put : insert xs len ds w.key 0 ≡ insert xs len (set (cands_of es ns) 0 (cand_of w v)) w.key 0
    at-put = ap (λ (z : List Cand). insert xs len z w.key 0) put

    pub come_stuck : d ≡ false → ◌≡◌ {A = IndexedCands} (record { fine = false; cands = ds; index = ys }) (come_in xs (table_of es ns len) (cand_of w v))
    unfolding come_in
    come_stuck g = rw (sym (ap (λ s. s.fine) at-put) ∙ sym eg ∙ g) (layer_path refl put (ey ∙ ap (λ s. s.table) at-put))

    pub come_done : d ≡ true → (ly : IndexedCands) → ly ≡ sink len len ys ds 0 → ly ≡ come_in xs (table_of es ns len) (cand_of w v)
    unfolding come_in
    come_done g ly q = rw (sym (ap (λ s. s.fine) at-put) ∙ sym eg ∙ g) (q ∙ ap₂ (λ (x : List ℕ) (y : List Cand). sink len len x y 0) (ey ∙ ap (λ s. s.table) at-put) put)

  -- the root's key goes out
  module _ (b : Bool) (ys : List ℕ) (eb : b ≡ (remove xs len (cands_of es ns) 0).fine) (ey : ys ≡ (remove xs len (cands_of es ns) 0).table) where
    pub replace_no : b ≡ false → ◌≡◌ {A = IndexedCands} (record { fine = false; cands = cands_of es ns; index = ys }) (replace_in xs (table_of es ns len) (cand_of w v))
    unfolding replace_in
    replace_no f = rw (sym eb ∙ f) (layer_path refl refl ey)

    pub replace_on : b ≡ true → (ly : IndexedCands) → ly ≡ come_in ys (table_of es ns len) (cand_of w v') → ly ≡ replace_in xs (table_of es ns len) (cand_of w v)
    unfolding replace_in
    replace_on f ly q = rw (sym eb ∙ f) (q ∙ ap₂ (λ (x : List ℕ) (z : ℤ). come_in x (table_of es ns len) (cand_of w z)) ey same_v)

  -- the root
  module _ (some : 0 < length ns) where
    root : count_at (cands_of es ns) 0 ≡ get_or ns 0 (pos 0)
    root = count_at_lem es ns 0 some

    pub displace-range : in_range (get_or ns 0 (pos 0)) ≡ false
        → ◌≡◌ {A = IndexedOffer} (record { after = cands_with xs es ns false; answer = TurnedAway }) (displace_in xs (table_of es ns len) (cand_of w v))
    unfolding displace_in
    displace-range r = rw (root, r)

    module _ (r : in_range (get_or ns 0 (pos 0)) ≡ true) (fits : mag (get_or ns 0 (pos 0)) < 2 ^ 63) where
      root-less : (b : Bool) → lt_z (to_z w64 (of_z w64 (get_or ns 0 (pos 0)))) v' ≡ b → lt_z (get_or ns 0 (pos 0)) v ≡ b
      root-less b t = rw (to_z-of_z {w = w64} {z = get_or ns 0 (pos 0)} (sfits_of fits), same_v) at t

      pub displace-less : lt_z (to_z w64 (of_z w64 (get_or ns 0 (pos 0)))) v' ≡ false
          → ◌≡◌ {A = IndexedOffer} (record { after = cands_with xs es ns true; answer = TurnedAway }) (displace_in xs (table_of es ns len) (cand_of w v))
      unfolding displace_in
      displace-less t = rw (root, r, root-less false t)

      pub displace_more : lt_z (to_z w64 (of_z w64 (get_or ns 0 (pos 0)))) v' ≡ true → (key : ℕ) → key ≡ get_or es 0 0 → (ly : IndexedCands) → ly ≡ replace_in xs (table_of es ns len) (cand_of w v')
          → ◌≡◌ {A = IndexedOffer} (record { after = ly; answer = Displaced key }) (displace_in xs (table_of es ns len) (cand_of w v))
      unfolding displace_in
      displace_more t key e ly q =
          (λ i. record { after = (q ∙ ap (λ (x : ℤ). replace_in xs (table_of es ns len) (cand_of w x)) same_v) i; answer = Displaced ((e ∙ sym (ap (λ (c : Cand). c.item.key) (cand_at es ns 0 some))) i) }) ∙ sym taken
        where
          taken : displace_in xs (table_of es ns len) (cand_of w v) ≡ record { after = replace_in xs (table_of es ns len) (cand_of w v); answer = Displaced (key_at (cands_of es ns) 0) }
          taken = rw (root, r, root-less true t)

  -- ---- the whole offer

  module _ (size : ℕ) (l : Option Lookup) (found : look xs len (cands_of es ns) w.key ≡ l) where
    offer-by : offer_in size xs (table_of es ns len) (cand_of w v) ≡ offer_by size xs (table_of es ns len) (cand_of w v) l
    unfolding offer_in
    offer-by = ap (offer_by size xs (table_of es ns len) (cand_of w v)) found

  pub offer_known : (size p d i : ℕ) → look xs len (cands_of es ns) w.key ≡ Some (Met p d) → word xs p - 1 ≡ i → (ly : IndexedCands) → ly ≡ rescore_in xs (table_of es ns len) i (cand_of w v')
      → ◌≡◌ {A = IndexedOffer} (record { after = ly; answer = Rescored }) (offer_in size xs (table_of es ns len) (cand_of w v))
  offer_known size p d i f e ly q =
      (λ j. record { after = (q ∙ ap (λ (x : ℤ). rescore_in xs (table_of es ns len) i (cand_of w x)) same_v) j; answer = Rescored }) ∙ ap (λ (x : ℕ). record { after = rescore_in xs (table_of es ns len) x (cand_of w v); answer = Rescored }) (sym e) ∙ sym (offer-by size (Some (Met p d)) f)

  pub offer-seat : (size p d : ℕ) → look xs len (cands_of es ns) w.key ≡ Some (Vacant p d) → len < size → (ly : IndexedCands) → ly ≡ seat_in xs (table_of es ns len) p (cand_of w v')
      → ◌≡◌ {A = IndexedOffer} (record { after = ly; answer = Seated }) (offer_in size xs (table_of es ns len) (cand_of w v))
  offer-seat size p d f h ly q = (λ j. record { after = (q ∙ ap (λ (x : ℤ). seat_in xs (table_of es ns len) p (cand_of w x)) same_v) j; answer = Seated }) ∙ sym (offer-by size (Some (Vacant p d)) f ∙ rw (lt-ltb len size h))

  pub offer_full : (size p d : ℕ) → look xs len (cands_of es ns) w.key ≡ Some (Vacant p d) → size ≤ len → (o : IndexedOffer) → o ≡ displace_in xs (table_of es ns len) (cand_of w v')
      → o ≡ offer_in size xs (table_of es ns len) (cand_of w v)
  offer_full size p d f h o q = q ∙ ap (λ (x : ℤ). displace_in xs (table_of es ns len) (cand_of w x)) same_v ∙ sym (offer-by size (Some (Vacant p d)) f ∙ rw (le-ltb len size h))

  pub offer-refused : (size : ℕ) → look xs len (cands_of es ns) w.key ≡ None
      → ◌≡◌ {A = IndexedOffer} (record { after = cands_with xs es ns false; answer = TurnedAway }) (offer_in size xs (table_of es ns len) (cand_of w v))
  offer-refused size f = sym (offer-by size None f)

-- all three slices are as long as before
pub record Long (xs₀ es₀ : List ℕ) (ns₀ : List ℤ) (xs es : List ℕ) (ns : List ℤ) : Type 0 where
  pub places : length xs ≡ length xs₀
  pub words : length es ≡ length es₀
  pub counts : length ns ≡ length ns₀
