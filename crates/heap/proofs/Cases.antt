-- The four cases of an offer: what holds in each of them holds of the offer.
use mathlib.Core.Path.{◌≡◌, refl}
use Prim.Native.Nat.{ℕ, ◌≤◌, ◌<◌}
use mathlib.Core.Bool.{Bool, true, false, cond}
use lib.ListN.{get_or}
use lib.Signed.{lt_z}
use lib.Dec.{ltb}
use borrow.Author.Tests.{ltb-true, ltb-false}
use Rattle.heap_moves.specs.Cands.{Cand, no_cand, count_at}
use Rattle.heap.specs.declared.Answer.TheVariants.{Rescored, Seated, Displaced, TurnedAway}
use Rattle.heap.specs.Offer.{Table, Offered, place_of, rescore, seat, replace_root, displace, offer}

split {ℓ} : (P : Offered → Type ℓ) (b : Bool) (x y : Offered) → (b ≡ true → P x) → (b ≡ false → P y) → P (cond b x y)
split P true x y f g = f refl
split P false x y f g = g refl

pub offer_cases {ℓ} : (size : ℕ) (t : Table) (c : Cand) (P : Offered → Type ℓ)
    → (place_of c.item.key t < t.len → P (record { table = rescore t (place_of c.item.key t) c; answer = Rescored }))
    → (t.len ≤ place_of c.item.key t → t.len < size → P (record { table = seat t c; answer = Seated }))
    → (t.len ≤ place_of c.item.key t → size ≤ t.len → lt_z (count_at t.cands 0) c.count ≡ true
    → P (record { table = replace_root t c; answer = Displaced (get_or t.cands 0 no_cand).item.key }))
    → (t.len ≤ place_of c.item.key t → size ≤ t.len → lt_z (count_at t.cands 0) c.count ≡ false → P (record { table = t; answer = TurnedAway }))
    → P (offer size t c)
unfolding offer displace
offer_cases size t c P known new more less =
    split P (ltb (place_of c.item.key t) t.len) _ _ (λ e. known (ltb-true _ _ e))
    (λ e. split P (ltb t.len size) _ _ (λ f. new (ltb-false _ _ e) (ltb-true _ _ f))
    (λ f. split P (lt_z (count_at t.cands 0) c.count) _ _ (λ g. more (ltb-false _ _ e) (ltb-false _ _ f) g) (λ g. less (ltb-false _ _ e) (ltb-false _ _ f) g)))
