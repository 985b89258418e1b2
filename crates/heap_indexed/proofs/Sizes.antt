-- An offer leaves no more candidates than there are places, whatever the index says. Assumes nothing.
use mathlib.Core.Path.{◌≡◌, refl, sym, subst}
use mathlib.Core.Bool.{Bool, true, false}
use mathlib.Core.List.{List}
use Prim.Native.Nat.{ℕ, ◌≤◌}
use native.Mathlib.Omega.{arith}
use lib.Dec.{ltb}
use lib.Signed.{lt_z}
use borrow.Author.Tests.{ltb-true}
use Rattle.std.proofs.Common.{Option, Some, None}
use Rattle.words.specs.Num.{in_range}
use Rattle.heap_moves.specs.Cands.{Cand, count_at}
use Rattle.heap.specs.Offer.{Table, len_by}
use Rattle.heap_index.specs.declared.Lookup.{Lookup}
use Rattle.heap_index.specs.declared.Lookup.TheVariants.{Met, Vacant}
use Rattle.heap_index.specs.Index.{look}
use Rattle.heap_indexed.specs.Offers.{offer_in, offer_by, displace_in}

-- a full table keeps its length
displaced_len : (xs : List ℕ) (t : Table) (c : Cand) → len_by (displace_in xs t c).answer t.len ≡ t.len
unfolding displace_in
displaced_len xs t c = go (in_range (count_at t.cands 0)) refl (lt_z (count_at t.cands 0) c.count) refl
  where
    go : (a : Bool) → in_range (count_at t.cands 0) ≡ a → (b : Bool) → lt_z (count_at t.cands 0) c.count ≡ b → len_by (displace_in xs t c).answer t.len ≡ t.len
    go false e b f = rw e
    go true e false f = rw (e, f)
    go true e true f = rw (e, f)

pub offer-few : (size : ℕ) (xs : List ℕ) (t : Table) (c : Cand) → t.len ≤ size → len_by (offer_in size xs t c).answer t.len ≤ size
unfolding offer_in
offer-few size xs t c h = go (look xs t.len t.cands c.item.key)
  where
    seated : (b : Bool) → ltb t.len size ≡ b → (p d : ℕ) → len_by (offer_by size xs t c (Some (Vacant p d))).answer t.len ≤ size
    seated true e p d = rw e (omega (arith, ltb-true t.len size e))
    seated false e p d = rw e (subst (λ (n : ℕ). n ≤ size) (sym (displaced_len xs t c)) h)

    go : (k : Option Lookup) → len_by (offer_by size xs t c k).answer t.len ≤ size
    go (Some (Met p d)) = h
    go (Some (Vacant p d)) = seated (ltb t.len size) refl p d
    go None = h
