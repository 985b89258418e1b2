-- A swap that is taken back leaves everything as it was.
use mathlib.Core.Path.{◌≡◌, refl, sym, ap, ◌∙◌, subst}
use mathlib.Core.Logic.{◌≢◌}
use mathlib.Core.Bool.{Bool, true, false, cond, not, ◌&&◌}
use mathlib.Core.List.{List}
use Prim.Native.Nat.{ℕ, zero, suc, ◌+◌, ◌-◌, ◌*◌, ◌^◌, ◌≤◌, ◌<◌}
use native.Mathlib.Omega.{arith}
use native.Mathlib.Numerals.{add-one}
use native.Mathlib.Decide.{ℕ_discrete}
use lib.ListN.{length, get_or, set, length-set}
use lib.Seq.{get_or-set_same, get_or-set_other, set-set, set_comm, set-get_or}
use lib.Dec.{eqb, ltb}
use borrow.Author.Tests.{eq-eqb, ne_eqb, lt-ltb}
use Rattle.std.proofs.Common.{Some, None}
use Rattle.words.specs.Num.{in_range}
use Rattle.heap_moves.specs.Cands.{Cand, no_cand, count_at, recount, smaller, swapped, parent, left_or, lower}
use Rattle.heap_moves.proofs.Moved.{lower-lt}
use Rattle.heap_index.specs.Index.{ends_at, word, look, found_under, exchange, no_step}
use Rattle.heap_index.proofs.Checks.{place_at}
use Rattle.heap_index.proofs.Walks.{exchange_yes, exchange-left, exchange-right, insert_is}
use Rattle.heap_indexed.specs.Moves.{IndexedCands, child_in, swap_in, climb, sink, resettle, moved_to, not_moved}
use Rattle.heap_indexed.specs.Offers.{IndexedOffer, rescore_in, seat_in, come_in, replace_in, displace_in, offer_in}
use Rattle.heap_trial.specs.inner.Trials.{enter_sink}
use Rattle.heap_index.specs.declared.Lookup.{Lookup}
use Rattle.heap_index.specs.declared.Lookup.TheVariants.{Met, Vacant}
use Rattle.heap_indexed.proofs.Steps.{settle-left, settle-right, settle-up, settle-down, rescore_is, seat_is, displace-range, displace-less, displace_more, offer_known, offer-seat, offer_full, offer-refused}
use Rattle.heap_moves.specs.declared.Item.{Item}
use Rattle.heap_moves.specs.Flat.{cands_of, cand_of, item_of}
use Rattle.heap_moves.proofs.Views.{cand_at, cand_path, recount-view}
use Rattle.heap.specs.inner.Slices.{table_of}
use lib.IntN.{ℤ, pos}
use lib.Signed.{lt_z, mag}
use mir.Syntax.{w64}
use mir.Val.{to_z, of_z}

-- two places are given other values, and then their own again
pub set_back : {A : Type 0} (d : A) (xs : List A) (a b : ℕ) (x y u v : A) → a ≢ b → get_or xs a d ≡ u → get_or xs b d ≡ v → set (set (set (set xs a x) b y) a u) b v ≡ xs
set_back {A} d xs a b x y u v ne p q =
    ap (λ (z : List A). set z b v) (set_comm (set xs a x) b a y u (λ e. ne (sym e)) ∙ ap (λ (z : List A). set z b y) (set-set xs a x u))
    ∙ set-set (set xs a u) b y v
    ∙ ap (λ (z : List A). set z b v) (ap (set xs a) (sym p) ∙ set-get_or xs a d) ∙ ap (set xs b) (sym q) ∙ set-get_or xs b d

-- two entries are swapped twice
pub swap-back : (cs : List Cand) (i j : ℕ) → i ≢ j → i < length cs → j < length cs → swapped (swapped cs i j) j i ≡ cs
swap-back cs i j ne hi hj =
    let two = set (set cs i (get_or cs j no_cand)) j (get_or cs i no_cand) in
    let left : get_or two i no_cand ≡ get_or cs j no_cand = get_or-set_other (set cs i (get_or cs j no_cand)) j i (get_or cs i no_cand) no_cand ne ∙ get_or-set_same cs i (get_or cs j no_cand) no_cand hi in
    let right : get_or two j no_cand ≡ get_or cs i no_cand = get_or-set_same (set cs i (get_or cs j no_cand)) j (get_or cs i no_cand) no_cand (subst (λ (x : ℕ). j < x) (sym (length-set cs i (get_or cs j no_cand))) hj) in
    ap (λ (z : Cand). set (set two j z) i (get_or two j no_cand)) left ∙ ap (λ (z : Cand). set (set two j (get_or cs j no_cand)) i z) right
    ∙ set_comm two j i (get_or cs j no_cand) (get_or cs i no_cand) (λ e. ne (sym e)) ∙ set_back no_cand cs i j (get_or cs j no_cand) (get_or cs i no_cand) (get_or cs i no_cand) (get_or cs j no_cand) ne refl refl

-- the numbers at the places of two entries
pub index_back : (xs : List ℕ) (n : ℕ) (cs : List Cand) (i j a b : ℕ) → i ≢ j → a ≡ found_under xs n cs i → b ≡ found_under xs n cs j → a < length xs → b < length xs
    → set (set (set (set xs a (j + 1)) b (i + 1)) a (i + 1)) b (j + 1) ≡ xs
index_back xs n cs i j a b ne ea eb ha hb =
    set_back 0 xs a b (j + 1) (i + 1) (i + 1) (j + 1) (λ e. ne (omega (arith, ap (word xs) e, na, nb))) (na ∙ sym (add-one i)) (nb ∙ sym (add-one j))
  where
    na : word xs a ≡ suc i
    na = ap (word xs) ea ∙ (place_at xs n cs i (subst (λ (x : ℕ). x < length xs) ea ha)).number

    nb : word xs b ≡ suc j
    nb = ap (word xs) eb ∙ (place_at xs n cs j (subst (λ (x : ℕ). x < length xs) eb hb)).number

-- ---- the bound on the moves does not matter once it is enough

pub climb-same : (k l n : ℕ) (xs : List ℕ) (cs : List Cand) (i : ℕ) → i ≤ k → i ≤ l → climb k n xs cs i ≡ climb l n xs cs i
unfolding climb
climb-same zero zero n xs cs i h g = refl
climb-same zero (suc l) n xs cs i h g = rw (eq-eqb i 0 (omega arith))
climb-same (suc k) zero n xs cs i h g = rw (eq-eqb i 0 (omega arith))
climb-same (suc k) (suc l) n xs cs i h g = go (ℕ_discrete i 0) (climb-same k l n (swap_in n xs cs (parent i) i).index (swap_in n xs cs (parent i) i).cands (parent i))
  where
    go : Dec (i ≡ 0) → (parent i ≤ k → parent i ≤ l → climb k n (swap_in n xs cs (parent i) i).index (swap_in n xs cs (parent i) i).cands (parent i) ≡ climb l n (swap_in n xs cs (parent i) i).index (swap_in n xs cs (parent i) i).cands (parent i))
        → climb (suc k) n xs cs i ≡ climb (suc l) n xs cs i
    go (yes e) ih = rw (eq-eqb i 0 e)
    go (no z) ih = ap (λ (s : IndexedCands). cond (eqb i 0) (moved_to cs xs) (cond (not (in_range (count_at cs (parent i)))) (not_moved cs xs) (cond (not (smaller cs i (parent i))) (moved_to cs xs)
        (cond (not (swap_in n xs cs (parent i) i).fine) (swap_in n xs cs (parent i) i) s)))) (ih (omega (arith, z)) (omega (arith, z)))

-- ---- each return of the trial

module _ (n : ℕ) (xs : List ℕ) (cs : List Cand) (i : ℕ) where
  pub try_top : i ≡ 0 → true ≡ (climb i n xs cs i).fine
  unfolding climb
  try_top e = rw e

  module _ (h : i ≢ 0) (l : i < n) where
    step : climb i n xs cs i ≡ climb (suc i) n xs cs i
    step = climb-same i (suc i) n xs cs i (omega arith) (omega arith)

    pub try_range : child_in n cs (parent i) ≡ false → false ≡ (climb i n xs cs i).fine
    unfolding climb child_in
    try_range w =
        let r : in_range (count_at cs (parent i)) ≡ false = rw (lt-ltb (parent i) n (omega (arith, l))) at w in
        sym (ap (λ (s : IndexedCands). s.fine) step ∙ rw (ne_eqb i 0 h, r))

    module _ (w : child_in n cs (parent i) ≡ true) where
      in-range : in_range (count_at cs (parent i)) ≡ true
      unfolding child_in
      in-range = rw (lt-ltb (parent i) n (omega (arith, l))) at w

      pub try_stays : smaller cs i (parent i) ≡ false → true ≡ (climb i n xs cs i).fine
      unfolding climb
      try_stays t = sym (ap (λ (s : IndexedCands). s.fine) step ∙ rw (ne_eqb i 0 h, in-range, t))

      module _ (t : smaller cs i (parent i) ≡ true) (a : ℕ) (ea : a ≡ found_under xs n cs (parent i)) where
        stuck : exchange xs n cs (parent i) i ≡ no_step xs → false ≡ (climb i n xs cs i).fine
        unfolding climb
        stuck e = sym (ap (λ (s : IndexedCands). s.fine) step ∙ rw (ne_eqb i 0 h, in-range, t, e))

        pub try_left : (b : ℕ) → b ≡ found_under xs n cs i → length xs ≤ a → false ≡ (climb i n xs cs i).fine
        try_left b eb g = stuck (exchange-left xs n cs (parent i) i a b ea eb g)

        pub try_right : (b : ℕ) → b ≡ found_under xs n cs i → a < length xs → length xs ≤ b → false ≡ (climb i n xs cs i).fine
        try_right b eb g k = stuck (exchange-right xs n cs (parent i) i a b ea eb g k)

        pub try_on : (b : ℕ) → b ≡ found_under xs n cs i → a < length xs → b < length xs → (ys : List ℕ) (ds : List Cand) → ys ≡ set (set xs a (i + 1)) b (parent i + 1)
            → ds ≡ swapped cs (parent i) i → (r : Bool) → r ≡ (climb (parent i) n ys ds (parent i)).fine → r ≡ (climb i n xs cs i).fine
        unfolding climb
        try_on b eb g k ys ds ey ed r q =
            q ∙ ap (λ (s : IndexedCands). s.fine) (climb-same (parent i) i n ys ds (parent i) (omega arith) (omega arith)) ∙ sym (ap (λ (s : IndexedCands). s.fine) (step ∙ goes))
          where
            goes : climb (suc i) n xs cs i ≡ climb i n ys ds (parent i)
            goes = rw (ne_eqb i 0 h, in-range, t, exchange_yes xs n cs (parent i) i a b ea eb g k, ey, ed)

-- ---- there and back

pub back_index : (xs ys zs us : List ℕ) (n : ℕ) (cs : List Cand) (i j a b : ℕ) → i ≢ j → a ≡ found_under xs n cs i → b ≡ found_under xs n cs j → a < length xs → b < length xs
    → ys ≡ set (set xs a (j + 1)) b (i + 1) → zs ≡ ys → us ≡ set (set zs a (i + 1)) b (j + 1) → us ≡ xs
back_index xs ys zs us n cs i j a b ne ea eb ha hb p q r =
    r ∙ ap (λ (l : List ℕ). set (set l a (i + 1)) b (j + 1)) (q ∙ p) ∙ index_back xs n cs i j a b ne ea eb ha hb

pub back-cands : (cs ds es fs : List Cand) (i j : ℕ) → i ≢ j → i < length cs → j < length cs → ds ≡ swapped cs i j → es ≡ ds → fs ≡ swapped es j i → fs ≡ cs
back-cands cs ds es fs i j ne hi hj p q r = r ∙ ap (λ (l : List Cand). swapped l j i) (q ∙ p) ∙ swap-back cs i j ne hi hj

-- ---- the way down

left-low : (n : ℕ) (cs : List Cand) (i : ℕ) → i ≤ left_or n cs i
unfolding left_or
left-low n cs i = go (ltb (2 * i + 1) n && smaller cs (2 * i + 1) i)
  where
    go : (b : Bool) → i ≤ cond b (2 * i + 1) i
    go true = omega arith
    go false = omega arith

lower-low : (n : ℕ) (cs : List Cand) (i : ℕ) → i ≤ lower n cs i
unfolding lower
lower-low n cs i = go (ltb (2 * i + 2) n && smaller cs (2 * i + 2) (left_or n cs i))
  where
    go : (b : Bool) → i ≤ cond b (2 * i + 2) (left_or n cs i)
    go true = omega arith
    go false = left-low n cs i

pub sink-same : (k l n : ℕ) (xs : List ℕ) (cs : List Cand) (i : ℕ) → i < n → n ≤ i + k → n ≤ i + l → sink k n xs cs i ≡ sink l n xs cs i
unfolding sink
sink-same zero l n xs cs i hi h g = absurd (omega arith)
sink-same (suc k) zero n xs cs i hi h g = absurd (omega arith)
sink-same (suc k) (suc l) n xs cs i hi h g =
    go (ℕ_discrete (lower n cs i) i) (sink-same k l n (swap_in n xs cs i (lower n cs i)).index (swap_in n xs cs i (lower n cs i)).cands (lower n cs i) (lower-lt n cs i hi))
  where
    onward : IndexedCands → IndexedCands
    onward s =
        cond (not (child_in n cs (2 * i + 1))) (not_moved cs xs) (cond (not (child_in n cs (2 * i + 2))) (not_moved cs xs) (cond (eqb (lower n cs i) i) (moved_to cs xs)
        (cond (not (swap_in n xs cs i (lower n cs i)).fine) (swap_in n xs cs i (lower n cs i)) s)))

    go : Dec (lower n cs i ≡ i)
        → (n ≤ lower n cs i + k → n ≤ lower n cs i + l → sink k n (swap_in n xs cs i (lower n cs i)).index (swap_in n xs cs i (lower n cs i)).cands (lower n cs i) ≡ sink l n (swap_in n xs cs i (lower n cs i)).index (swap_in n xs cs i (lower n cs i)).cands (lower n cs i))
        → sink (suc k) n xs cs i ≡ sink (suc l) n xs cs i
    go (yes e) ih = rw (eq-eqb (lower n cs i) i e)
    go (no z) ih = ap onward (ih (omega (arith, z, lower-low n cs i)) (omega (arith, z, lower-low n cs i)))

module _ (n : ℕ) (xs : List ℕ) (cs : List Cand) (i : ℕ) (l : i < n) where
  down_step : sink n n xs cs i ≡ sink (suc n) n xs cs i
  down_step = sink-same n (suc n) n xs cs i l (omega arith) (omega arith)

  pub down-left : child_in n cs (2 * i + 1) ≡ false → false ≡ (sink n n xs cs i).fine
  unfolding sink
  down-left w = sym (ap (λ (s : IndexedCands). s.fine) (down_step ∙ at))
    where
      at : sink (suc n) n xs cs i ≡ not_moved cs xs
      at = rw w

  module _ (u : child_in n cs (2 * i + 1) ≡ true) where
    pub down-right : child_in n cs (2 * i + 2) ≡ false → false ≡ (sink n n xs cs i).fine
    unfolding sink
    down-right w = sym (ap (λ (s : IndexedCands). s.fine) (down_step ∙ at))
      where
        at : sink (suc n) n xs cs i ≡ not_moved cs xs
        at = rw (u, w)

    module _ (w : child_in n cs (2 * i + 2) ≡ true) (j : ℕ) (e : j ≡ lower n cs i) where
      pub down-stays : j ≡ i → true ≡ (sink n n xs cs i).fine
      unfolding sink
      down-stays s = sym (ap (λ (s : IndexedCands). s.fine) (down_step ∙ at))
        where
          at : sink (suc n) n xs cs i ≡ moved_to cs xs
          at = rw (u, w, eq-eqb (lower n cs i) i (sym e ∙ s))

      module _ (ne : j ≡ i → ⊥) (a : ℕ) (ea : a ≡ found_under xs n cs i) (b : ℕ) (eb : b ≡ found_under xs n cs j) where
        moves : eqb (lower n cs i) i ≡ false
        moves = ne_eqb (lower n cs i) i (λ y. ne (e ∙ y))

        stuck_down : exchange xs n cs i (lower n cs i) ≡ no_step xs → false ≡ (sink n n xs cs i).fine
        unfolding sink
        stuck_down q = sym (ap (λ (s : IndexedCands). s.fine) (down_step ∙ at))
          where
            at : sink (suc n) n xs cs i ≡ not_moved cs xs
            at = rw (u, w, moves, q)

        eb' : b ≡ found_under xs n cs (lower n cs i)
        eb' = eb ∙ ap (found_under xs n cs) e

        pub down_from : length xs ≤ a → false ≡ (sink n n xs cs i).fine
        down_from g = stuck_down (exchange-left xs n cs i (lower n cs i) a b ea eb' g)

        pub down_to : a < length xs → length xs ≤ b → false ≡ (sink n n xs cs i).fine
        down_to g k = stuck_down (exchange-right xs n cs i (lower n cs i) a b ea eb' g k)

        pub down_on : i ≤ j → j < n → a < length xs → b < length xs → (ys : List ℕ) (ds : List Cand) → ys ≡ set (set xs a (j + 1)) b (i + 1) → ds ≡ swapped cs i j → (r : Bool)
            → r ≡ (sink n n ys ds j).fine → r ≡ (sink n n xs cs i).fine
        unfolding sink
        down_on low hj g k ys ds ey ed r q = q ∙ sym (ap (λ (s : IndexedCands). s.fine) (down_step ∙ goes))
          where
            goes : sink (suc n) n xs cs i ≡ sink n n ys ds j
            goes = rw (u, w, moves, exchange_yes xs n cs i (lower n cs i) a b ea eb' g k, ey, ed, e)

-- ---- down, or else up

module _ (n : ℕ) (xs : List ℕ) (cs : List Cand) (i : ℕ) where
  pub rest-left : child_in n cs (2 * i + 1) ≡ false → false ≡ (resettle n xs cs i).fine
  rest-left u = ap (λ (s : IndexedCands). s.fine) (settle-left n xs cs i u)

  module _ (u : child_in n cs (2 * i + 1) ≡ true) where
    pub rest-right : child_in n cs (2 * i + 2) ≡ false → false ≡ (resettle n xs cs i).fine
    rest-right w = ap (λ (s : IndexedCands). s.fine) (settle-right n xs cs i u w)

    module _ (w : child_in n cs (2 * i + 2) ≡ true) (j : ℕ) (e : j ≡ lower n cs i) (r : Bool) where
      pub rest_up : j ≡ i → r ≡ (climb i n xs cs i).fine → r ≡ (resettle n xs cs i).fine
      rest_up s q = q ∙ ap (λ (s : IndexedCands). s.fine) (settle-up n xs cs i u w j e (climb i n xs cs i) s refl)

      pub rest-down : (j ≡ i → ⊥) → r ≡ (sink n n xs cs i).fine → r ≡ (resettle n xs cs i).fine
      rest-down s q = q ∙ ap (λ (s : IndexedCands). s.fine) (settle-down n xs cs i u w j e (sink n n xs cs i) s refl)

-- ---- one place, or one entry, given another value and then its own again

pub put_back : {A : Type 0} (d : A) (xs ys : List A) (p : ℕ) (x y : A) → ys ≡ set xs p x → y ≡ get_or xs p d → set ys p y ≡ xs
put_back {A} d xs ys p x y e q = ap (λ (l : List A). set l p y) e ∙ set-set xs p x y ∙ ap (set xs p) q ∙ set-get_or xs p d

pub back_count : (es es' : List ℕ) (ns ns' : List ℤ) (i : ℕ) (v old : ℤ) → cands_of es' ns' ≡ cands_of es (set ns i v) → old ≡ get_or ns i (pos 0) → cands_of es' (set ns' i old) ≡ cands_of es ns
back_count es es' ns ns' i v old e q =
    recount-view es' ns' i old ∙ ap (λ (cs : List Cand). recount cs i old) e ∙ sym (recount-view es (set ns i v) i old)
    ∙ ap (cands_of es) (set-set ns i v old ∙ ap (set ns i) q ∙ set-get_or ns i (pos 0))

pub back-put : (es es₁ es₂ es₃ : List ℕ) (ns ns₁ ns₂ ns₃ : List ℤ) (i : ℕ) (x : Cand) (item : Item) (old : ℤ) → i < length ns → cands_of es₁ ns₁ ≡ set (cands_of es ns) i x → cands_of es₂ ns₂ ≡ cands_of es₁ ns₁
    → cands_of es₃ ns₃ ≡ set (cands_of es₂ ns₂) i (cand_of item old) → item ≡ item_of es i → old ≡ get_or ns i (pos 0) → cands_of es₃ ns₃ ≡ cands_of es ns
back-put es es₁ es₂ es₃ ns ns₁ ns₂ ns₃ i x item old h a b c e f =
    c ∙ put_back no_cand (cands_of es ns) (cands_of es₂ ns₂) i x (cand_of item old) (b ∙ a) (cand_path e f ∙ sym (cand_at es ns i h))

-- ---- what the parts of an offer would say

module _ (xs es : List ℕ) (ns : List ℤ) (len : ℕ) (w : Item) (v v' : ℤ) (same_v : v' ≡ v) (r : Bool) where
  pub try_rescored : (i : ℕ) → r ≡ (resettle len xs (cands_of es (set ns i v')) i).fine → r ≡ (rescore_in xs (table_of es ns len) i (cand_of w v)).fine
  try_rescored i q = q ∙ ap (λ (s : IndexedCands). s.fine) (rescore_is xs es ns len w v v' same_v i (resettle len xs (cands_of es (set ns i v')) i) refl)

  pub try_seated : (p : ℕ) (ds : List Cand) → ds ≡ set (cands_of es ns) len (cand_of w v') → r ≡ (climb len (len + 1) (set xs p (len + 1)) ds len).fine → r ≡ (seat_in xs (table_of es ns len) p (cand_of w v)).fine
  try_seated p ds e q = q ∙ ap (λ (s : IndexedCands). s.fine) (seat_is xs es ns len w v v' same_v p ds (climb len (len + 1) (set xs p (len + 1)) ds len) e refl)

-- ---- the new key for the root's

module _ (n : ℕ) (xs : List ℕ) (cs : List Cand) (k : ℕ) (r : Bool) where
  pub insert_at-place : (l : Lookup) → look xs n cs k ≡ Some l → r ≡ (sink n n (set xs (ends_at l) 1) cs 0).fine → r ≡ (enter_sink n xs cs k).fine
  insert_at-place (Met p d) e q = rw (insert_is xs n cs k 0 (Some (Met p d)) e) q
  insert_at-place (Vacant p d) e q = rw (insert_is xs n cs k 0 (Some (Vacant p d)) e) q

  pub insert_nowhere : look xs n cs k ≡ None → false ≡ (enter_sink n xs cs k).fine
  insert_nowhere e = rw (insert_is xs n cs k 0 None e)

pub try_came : (xs es : List ℕ) (ns : List ℤ) (n : ℕ) (w : Item) (v v' : ℤ) → v' ≡ v → (ds : List Cand) → ds ≡ set (cands_of es ns) 0 (cand_of w v') → (r : Bool) → r ≡ (enter_sink n xs ds w.key).fine
    → r ≡ (come_in xs (table_of es ns n) (cand_of w v)).fine
unfolding come_in
try_came xs es ns n w v v' same_v ds e r q = q ∙ ap (λ (z : List Cand). (enter_sink n xs z w.key).fine) (e ∙ ap (λ (x : ℤ). set (cands_of es ns) 0 (cand_of w x)) same_v)

-- ---- the whole trial

module _ (xs es : List ℕ) (ns : List ℤ) (len : ℕ) (w : Item) (v v' : ℤ) (same_v : v' ≡ v) where
  module _ (some : 0 < length ns) where
    pub try_range-root : in_range (get_or ns 0 (pos 0)) ≡ false → false ≡ (displace_in xs (table_of es ns len) (cand_of w v)).after.fine
    try_range-root r = ap (λ (o : IndexedOffer). o.after.fine) (displace-range xs es ns len w v v' same_v some r)

    module _ (r : in_range (get_or ns 0 (pos 0)) ≡ true) (fits : mag (get_or ns 0 (pos 0)) < 2 ^ 63) where
      pub try_less : lt_z (to_z w64 (of_z w64 (get_or ns 0 (pos 0)))) v' ≡ false → true ≡ (displace_in xs (table_of es ns len) (cand_of w v)).after.fine
      try_less t = ap (λ (o : IndexedOffer). o.after.fine) (displace-less xs es ns len w v v' same_v some r fits t)

      pub try_more : lt_z (to_z w64 (of_z w64 (get_or ns 0 (pos 0)))) v' ≡ true → (b : Bool) → b ≡ (replace_in xs (table_of es ns len) (cand_of w v')).fine → b ≡ (displace_in xs (table_of es ns len) (cand_of w v)).after.fine
      try_more t b q = q ∙ ap (λ (o : IndexedOffer). o.after.fine) (displace_more xs es ns len w v v' same_v some r fits t (get_or es 0 0) refl (replace_in xs (table_of es ns len) (cand_of w v')) refl)

  module _ (size : ℕ) (b : Bool) where
    pub try_known : (p d : ℕ) → look xs len (cands_of es ns) w.key ≡ Some (Met p d) → b ≡ (rescore_in xs (table_of es ns len) (word xs p - 1) (cand_of w v')).fine → b ≡ (offer_in size xs (table_of es ns len) (cand_of w v)).after.fine
    try_known p d f q = q ∙ ap (λ (o : IndexedOffer). o.after.fine) (offer_known xs es ns len w v v' same_v size p d (word xs p - 1) f refl (rescore_in xs (table_of es ns len) (word xs p - 1) (cand_of w v')) refl)

    pub try_new : (p d : ℕ) → look xs len (cands_of es ns) w.key ≡ Some (Vacant p d) → len < size → b ≡ (seat_in xs (table_of es ns len) p (cand_of w v')).fine → b ≡ (offer_in size xs (table_of es ns len) (cand_of w v)).after.fine
    try_new p d f h q = q ∙ ap (λ (o : IndexedOffer). o.after.fine) (offer-seat xs es ns len w v v' same_v size p d f h (seat_in xs (table_of es ns len) p (cand_of w v')) refl)

    pub try_full : (p d : ℕ) → look xs len (cands_of es ns) w.key ≡ Some (Vacant p d) → size ≤ len → b ≡ (displace_in xs (table_of es ns len) (cand_of w v')).after.fine
        → b ≡ (offer_in size xs (table_of es ns len) (cand_of w v)).after.fine
    try_full p d f h q = q ∙ ap (λ (o : IndexedOffer). o.after.fine) (offer_full xs es ns len w v v' same_v size p d f h (displace_in xs (table_of es ns len) (cand_of w v')) refl)

  pub try_nowhere : (size : ℕ) → look xs len (cands_of es ns) w.key ≡ None → false ≡ (offer_in size xs (table_of es ns len) (cand_of w v)).after.fine
  try_nowhere size f = ap (λ (o : IndexedOffer). o.after.fine) (offer-refused xs es ns len w v v' same_v size f)

pub one_less : {w n : ℕ} → (0 < w) × (w ≤ n) → w - 1 < n
one_less h = omega (arith, h.0, h.1)
