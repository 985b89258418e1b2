-- The entries in use: what an offer leaves of them, and counts that are in range. Assumes nothing.
use mathlib.Core.Path.{◌≡◌, refl, sym, subst}
use Prim.Native.Nat.{ℕ, zero, suc, ◌≤◌, ◌<◌}
use native.Mathlib.Omega.{arith}
use mathlib.Core.Bool.{true}
use mathlib.Core.List.{List, [], ◌∷◌}
use lib.ListN.{length, get_or, take}
use lib.IntN.{ℤ}
use Rattle.words.specs.Num.{in_range, all_in}
use Rattle.words.proofs.Bools.{both}
use Rattle.heap_moves.specs.Cands.{Cand, no_cand}
use Rattle.heap_moves.specs.Flat.{cand_of, counts_of}
use Rattle.heap_moves.specs.inner.Totals.{Each}
use Rattle.heap_moves.proofs.Moved.{each_set, each_next}
use Rattle.heap.specs.Offer.{Table, Offered, offer}
use Rattle.heap.proofs.Effects.{Effect, rescored, seated, displaced, turned_away, offer_effect}

-- what holds of an entry still holds when its count becomes v
abbrev pub Recounts : (Cand → Type 0) → ℤ → Type 0
Recounts P v = (x : Cand) → P x → P (cand_of x.item v)

module _ (size : ℕ) (t : Table) (c : Cand) (some : 0 < size) (long : length t.cands ≡ size) (small : t.len ≤ size) where
  effect_small : (o : Offered) → Effect size t c o → o.table.len ≤ size
  effect_small o (rescored i hi h a n m) = omega arith
  effect_small o (seated h r a n m) = omega arith
  effect_small o (displaced h r a n m) = omega arith
  effect_small o (turned_away h r a q) = rw q small

  pub offer-small : (offer size t c).table.len ≤ size
  offer-small = effect_small (offer size t c) (offer_effect size t c some long small)

  effect_each : (P : Cand → Type 0) → P c → Recounts P c.count → Each P t.len t.cands → (o : Offered) → Effect size t c o → Each P o.table.len o.table.cands
  effect_each P p re h o (rescored i hi g a n m) =
      subst (λ (z : ℕ). Each P z o.table.cands) (sym n)
      (m.all P (each_set P t.len t.cands i (cand_of (get_or t.cands i no_cand).item c.count) (omega arith) (re (get_or t.cands i no_cand) (h i hi)) h))
  effect_each P p re h o (seated g r a n m) =
      subst (λ (z : ℕ). Each P z o.table.cands) (sym n)
      (m.all P (λ i hi. each_next P t.len t.cands c (omega arith) p h i (omega arith)))
  effect_each P p re h o (displaced g r a n m) =
      subst (λ (z : ℕ). Each P z o.table.cands) (sym n) (m.all P (each_set P t.len t.cands 0 c (omega arith) p h))
  effect_each P p re h o (turned_away g r a q) = subst (λ (z : Table). Each P z.len z.cands) (sym q) h

  pub offer-each : (P : Cand → Type 0) → P c → Recounts P c.count → Each P t.len t.cands → Each P (offer size t c).table.len (offer size t c).table.cands
  offer-each P p re h = effect_each P p re h (offer size t c) (offer_effect size t c some long small)

-- ---- counts in range

abbrev pub InR : Cand → Type 0
InR c = in_range c.count ≡ true

-- counts that are in range pass the test of what is read
pub counts-read : (n : ℕ) (cs : List Cand) → n ≤ length cs → Each InR n cs → all_in (take n (counts_of cs)) ≡ true
unfolding all_in
counts-read zero cs l h = refl
counts-read (suc n) [] l h = refl
counts-read (suc n) (c ∷ cs) l h = both (h 0 (omega arith)) (counts-read n cs (omega arith) (λ i hi. h (suc i) (omega arith)))
