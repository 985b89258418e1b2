-- Two entries are swapped, and their numbers exchanged.
use mathlib.Core.Path.{◌≡◌, refl, sym, ap, ◌∙◌, subst}
use mathlib.Core.Logic.{◌≢◌}
use mathlib.Core.List.{List}
use Prim.Native.Nat.{ℕ, suc, ◌-◌, ◌≤◌, ◌<◌}
use native.Mathlib.Omega.{arith}
use native.Mathlib.Decide.{ℕ_discrete}
use lib.ListN.{length, get_or, set, length-set}
use lib.Seq.{get_or-set_same, get_or-set_other}
use borrow.Author.Tests.{lt-ltb}
use Rattle.heap_moves.specs.Cands.{Cand, no_cand, swapped}
use Rattle.heap_index.specs.Index.{home, dist, word, key_at, key_on, exchange_at, exchange}
use Rattle.heap_index.specs.inner.Indexes.{home_on, IndexesIn, Indexes, Ranged}
use Rattle.heap_index.proofs.Stands.{stands}
use Rattle.heap_index.proofs.Inserts.{Kept}

-- ---- the keys of swapped entries

module _ (cs : List Cand) (i j : ℕ) (hi : i < length cs) (hj : j < length cs) (ne : i ≢ j) where
  pub swap-right : get_or (swapped cs i j) j no_cand ≡ get_or cs i no_cand
  swap-right = get_or-set_same (set cs i (get_or cs j no_cand)) j (get_or cs i no_cand) no_cand (subst (λ (x : ℕ). j < x) (sym (length-set cs i (get_or cs j no_cand))) hj)

  pub swap-left : get_or (swapped cs i j) i no_cand ≡ get_or cs j no_cand
  swap-left = get_or-set_other (set cs i (get_or cs j no_cand)) j i (get_or cs i no_cand) no_cand ne ∙ get_or-set_same cs i (get_or cs j no_cand) no_cand hi

  pub swap-other : (l : ℕ) → l ≢ i → l ≢ j → get_or (swapped cs i j) l no_cand ≡ get_or cs l no_cand
  swap-other l a b = get_or-set_other (set cs i (get_or cs j no_cand)) j l (get_or cs i no_cand) no_cand b ∙ get_or-set_other cs i l (get_or cs j no_cand) no_cand a

  key_right : (l : ℕ) → l ≡ j → key_at (swapped cs i j) l ≡ key_at cs i
  key_right l s = ap (key_at (swapped cs i j)) s ∙ ap (λ (c : Cand). c.item.key) swap-right

  key_left : (l : ℕ) → l ≡ i → key_at (swapped cs i j) l ≡ key_at cs j
  key_left l s = ap (key_at (swapped cs i j)) s ∙ ap (λ (c : Cand). c.item.key) swap-left

  key-other : (l : ℕ) → l ≢ i → l ≢ j → key_at (swapped cs i j) l ≡ key_at cs l
  key-other l a b = ap (λ (c : Cand). c.item.key) (swap-other l a b)

  -- ---- the entries i and j stand at p and q

  module _ (xs : List ℕ) (n : ℕ) (v : Indexes xs n cs n) (ni : i < n) (nj : j < n) (p q : ℕ) (hp : p < length xs) (hq : q < length xs) (ip : word xs p ≡ suc i) (jq : word xs q ≡ suc j) where
    apart : p ≢ q
    apart y = ne (omega (arith, ap (word xs) y, ip, jq))

    at_right : (r : ℕ) → r ≡ q → word (set (set xs p (suc j)) q (suc i)) r ≡ suc i
    at_right r s =
        ap (word (set (set xs p (suc j)) q (suc i))) s ∙ get_or-set_same (set xs p (suc j)) q (suc i) 0 (subst (λ (x : ℕ). q < x) (sym (length-set xs p (suc j))) hq)

    at_left : (r : ℕ) → r ≡ p → word (set (set xs p (suc j)) q (suc i)) r ≡ suc j
    at_left r s = ap (word (set (set xs p (suc j)) q (suc i))) s ∙ get_or-set_other (set xs p (suc j)) q p (suc i) 0 apart ∙ get_or-set_same xs p (suc j) 0 hp

    at_other : (r : ℕ) → r ≢ q → r ≢ p → word (set (set xs p (suc j)) q (suc i)) r ≡ word xs r
    at_other r a b = get_or-set_other (set xs p (suc j)) q r (suc i) 0 a ∙ get_or-set_other xs p r (suc j) 0 b

    e_named : (r : ℕ) → r < length xs → Dec (r ≡ q) → Dec (r ≡ p) → word (set (set xs p (suc j)) q (suc i)) r ≤ n
    e_named r h (yes a) b = omega (arith, at_right r a)
    e_named r h (no a) (yes b) = omega (arith, at_left r b)
    e_named r h (no a) (no b) = omega (arith, at_other r a b, v.named r h)

    -- a place stays empty or filled
    e_filled : (r : ℕ) → Dec (r ≡ q) → Dec (r ≡ p) → word xs r ≢ 0 → word (set (set xs p (suc j)) q (suc i)) r ≢ 0
    e_filled r (yes a) b z = λ y. omega (arith, at_right r a, y)
    e_filled r (no a) (yes b) z = λ y. omega (arith, at_left r b, y)
    e_filled r (no a) (no b) z = λ y. z (sym (at_other r a b) ∙ y)

    e_was : (r : ℕ) → Dec (r ≡ q) → Dec (r ≡ p) → word (set (set xs p (suc j)) q (suc i)) r ≢ 0 → word xs r ≢ 0
    e_was r (yes a) b z = λ y. omega (arith, ap (word xs) a, jq, y)
    e_was r (no a) (yes b) z = λ y. omega (arith, ap (word xs) b, ip, y)
    e_was r (no a) (no b) z = λ y. z (at_other r a b ∙ y)

    -- and names the same key
    e_key : (r : ℕ) → r < length xs → word xs r ≢ 0 → Dec (r ≡ q) → Dec (r ≡ p) → key_on (set (set xs p (suc j)) q (suc i)) (swapped cs i j) r ≡ key_on xs cs r
    e_key r h z (yes a) b = key_left _ (omega (arith, at_right r a)) ∙ let s : j ≡ word xs r - 1 = omega (arith, ap (word xs) a, jq) in ap (key_at cs) s
    e_key r h z (no a) (yes b) = key_right _ (omega (arith, at_left r b)) ∙ let s : i ≡ word xs r - 1 = omega (arith, ap (word xs) b, ip) in ap (key_at cs) s
    e_key r h z (no a) (no b) =
        ap (λ (x : ℕ). key_at (swapped cs i j) (x - 1)) (at_other r a b)
        ∙ key-other (word xs r - 1) (λ y. b (v.once r p h hp (omega (arith, y, z, ip)) z)) (λ y. a (v.once r q h hq (omega (arith, y, z, jq)) z))

    e_once : (a b : ℕ) → a < length xs → b < length xs → word (set (set xs p (suc j)) q (suc i)) a ≡ word (set (set xs p (suc j)) q (suc i)) b
        → word (set (set xs p (suc j)) q (suc i)) a ≢ 0 → Dec (a ≡ q) → Dec (a ≡ p) → Dec (b ≡ q) → Dec (b ≡ p) → a ≡ b
    e_once a b ha hb e z (yes aq) ap' (yes bq) bp = aq ∙ sym bq
    e_once a b ha hb e z (yes aq) ap' (no bq) (yes bp) = absurd (ne (omega (arith, at_right a aq, at_left b bp, e)))
    e_once a b ha hb e z (yes aq) ap' (no bq) (no bp) =
        absurd (bp (v.once b p hb hp (sym (at_other b bq bp) ∙ sym e ∙ at_right a aq ∙ sym ip) (λ y. omega (arith, at_other b bq bp, e, at_right a aq, y))))
    e_once a b ha hb e z (no aq) (yes ap') (yes bq) bp = absurd (ne (omega (arith, at_left a ap', at_right b bq, e)))
    e_once a b ha hb e z (no aq) (yes ap') (no bq) (yes bp) = ap' ∙ sym bp
    e_once a b ha hb e z (no aq) (yes ap') (no bq) (no bp) =
        absurd (bq (v.once b q hb hq (sym (at_other b bq bp) ∙ sym e ∙ at_left a ap' ∙ sym jq) (λ y. omega (arith, at_other b bq bp, e, at_left a ap', y))))
    e_once a b ha hb e z (no aq) (no ap') (yes bq) bp =
        absurd (ap' (v.once a p ha hp (sym (at_other a aq ap') ∙ e ∙ at_right b bq ∙ sym ip) (λ y. z (at_other a aq ap' ∙ y))))
    e_once a b ha hb e z (no aq) (no ap') (no bq) (yes bp) =
        absurd (aq (v.once a q ha hq (sym (at_other a aq ap') ∙ e ∙ at_left b bp ∙ sym jq) (λ y. z (at_other a aq ap' ∙ y))))
    e_once a b ha hb e z (no aq) (no ap') (no bq) (no bp) = v.once a b ha hb (sym (at_other a aq ap') ∙ e ∙ at_other b bq bp) (λ y. z (at_other a aq ap' ∙ y))

    e_at : (l : ℕ) → l < n → Dec (l ≡ i) → Dec (l ≡ j) → (r : ℕ) × (r < length xs) × (word (set (set xs p (suc j)) q (suc i)) r ≡ suc l)
    e_at l h (yes a) b = (q, hq, at_right q refl ∙ ap suc (sym a))
    e_at l h (no a) (yes b) = (p, hp, at_left p refl ∙ ap suc (sym b))
    e_at l h (no a) (no b) =
        let w = v.at l h (λ y. omega (arith, y, h)) in
        (w.0, w.1, at_other w.0 (λ y. b (omega (arith, ap (word xs) y, w.2, jq))) (λ y. a (omega (arith, ap (word xs) y, w.2, ip))) ∙ w.2)

    same : (a b : ℕ) → a < n → b < n → key_at cs a ≡ key_at cs b → a ≡ b
    same a b ha hb e = v.keys a b ha hb (λ y. omega (arith, y, ha)) (λ y. omega (arith, y, hb)) e

    e_keys : (a b : ℕ) → a < n → b < n → key_at (swapped cs i j) a ≡ key_at (swapped cs i j) b → Dec (a ≡ i) → Dec (a ≡ j) → Dec (b ≡ i) → Dec (b ≡ j) → a ≡ b
    e_keys a b ha hb e (yes ai) aj (yes bi) bj = ai ∙ sym bi
    e_keys a b ha hb e (yes ai) aj (no bi) (yes bj) = absurd (ne (same i j ni nj (sym (key_right b bj) ∙ sym e ∙ key_left a ai)))
    e_keys a b ha hb e (yes ai) aj (no bi) (no bj) = absurd (bj (same b j hb nj (sym (key-other b bi bj) ∙ sym e ∙ key_left a ai)))
    e_keys a b ha hb e (no ai) (yes aj) (yes bi) bj = absurd (ne (same i j ni nj (sym (key_right a aj) ∙ e ∙ key_left b bi)))
    e_keys a b ha hb e (no ai) (yes aj) (no bi) (yes bj) = aj ∙ sym bj
    e_keys a b ha hb e (no ai) (yes aj) (no bi) (no bj) = absurd (bi (same b i hb ni (sym (key-other b bi bj) ∙ sym e ∙ key_right a aj)))
    e_keys a b ha hb e (no ai) (no aj) (yes bi) bj = absurd (aj (same a j ha nj (sym (key-other a ai aj) ∙ e ∙ key_left b bi)))
    e_keys a b ha hb e (no ai) (no aj) (no bi) (yes bj) = absurd (ai (same a i ha ni (sym (key-other a ai aj) ∙ e ∙ key_right b bj)))
    e_keys a b ha hb e (no ai) (no aj) (no bi) (no bj) = same a b ha hb (sym (key-other a ai aj) ∙ e ∙ key-other b bi bj)

    e_reach : (a b : ℕ) → a < length xs → b < length xs → word (set (set xs p (suc j)) q (suc i)) a ≢ 0
        → dist (length xs) (home_on (length xs) (set (set xs p (suc j)) q (suc i)) (swapped cs i j) a) b < dist (length xs) (home_on (length xs) (set (set xs p (suc j)) q (suc i)) (swapped cs i j) a) a
        → word (set (set xs p (suc j)) q (suc i)) b ≢ 0
    e_reach a b ha hb z l =
        let y = e_was a (ℕ_discrete a q) (ℕ_discrete a p) z in
        e_filled b (ℕ_discrete b q) (ℕ_discrete b p)
        (v.reach a b ha hb y (subst (λ (x : ℕ). dist (length xs) (home (length xs) x) b < dist (length xs) (home (length xs) x) a) (e_key a ha y (ℕ_discrete a q) (ℕ_discrete a p)) l))

    pub exchanged : IndexesIn (length xs) (set (set xs p (suc j)) q (suc i)) n (swapped cs i j) n
    exchanged =
        record {
          named = λ r h. e_named r h (ℕ_discrete r q) (ℕ_discrete r p);
          out = λ r h y. omega (arith, e_named r h (ℕ_discrete r q) (ℕ_discrete r p), y);
          once = λ a b ha hb e z. e_once a b ha hb e z (ℕ_discrete a q) (ℕ_discrete a p) (ℕ_discrete b q) (ℕ_discrete b p);
          at = λ l h o. e_at l h (ℕ_discrete l i) (ℕ_discrete l j);
          reach = e_reach;
          keys = λ a b ha hb oa ob e. e_keys a b ha hb e (ℕ_discrete a i) (ℕ_discrete a j) (ℕ_discrete b i) (ℕ_discrete b j);
        }

pub exchange-kept : (xs : List ℕ) (n : ℕ) (cs : List Cand) (i j : ℕ) → Indexes xs n cs n → Ranged n cs → i < n → j < n → n ≤ length cs → i ≢ j
    → Kept (length xs) (exchange xs n cs i j) n (swapped cs i j) n
unfolding exchange exchange_at
exchange-kept xs n cs i j v r hi hj l ne =
    let s = stands xs n cs n v r i hi (omega (arith, hi)) in
    let u = stands xs n cs n v r j hj (omega (arith, hj)) in
    let long : length (set (set xs s.place (suc j)) u.place (suc i)) ≡ length xs = simp length-set in
    rw (s.found, u.found, lt-ltb s.place (length xs) s.below, lt-ltb u.place (length xs) u.below)
    (record {
      fine = refl;
      long = long;
      holds = subst (λ (m : ℕ). IndexesIn m (set (set xs s.place (suc j)) u.place (suc i)) n (swapped cs i j) n) (sym long)
          (exchanged cs i j (omega arith) (omega arith) ne xs n v hi hj s.place u.place s.below u.below s.number u.number);
    })
