-- Each call of the code, from what its callees ensure.
use mathlib.Core.Path.{◌≡◌, ap, ◌∙◌}
use Prim.Native.Nat.{ℕ, ◌*◌, ◌^◌, ◌≤◌, ◌<◌}
use mathlib.Core.List.{List}
use mathlib.Core.Bool.{Bool, true, false}
use lib.ListN.{length, get_or, set, take}
use lib.IntN.{ℤ, pos}
use lib.Signed.{lt_z, mag}
use mir.Syntax.{w64}
use mir.Val.{to_z, of_z}
use mir.Facts.{to_z-of_z}
use borrow.Author.Rules.{sfits_of}
use borrow.Author.Tests.{lt-ltb, le-ltb}
use Rattle.heap_moves.specs.declared.Item.{Item}
use Rattle.heap_moves.specs.Cands.{Cand, recount, up, down, update_at}
use Rattle.heap_moves.specs.Flat.{cands_of, cand_of, entries_of, counts_of}
use Rattle.heap_moves.proofs.Views.{cand_at, count_at_lem, recount-view}
use Rattle.heap_moves.proofs.Rounds.{entries_are, counts_are}
use Rattle.heap.specs.declared.Answer.{Answer}
use Rattle.heap.specs.declared.Answer.TheVariants.{Rescored, Seated, Displaced, TurnedAway}
use Rattle.heap.specs.Offer.{Offered, find, rescore, seat, replace_root, displace, offer, len_by}
use Rattle.heap.specs.inner.Slices.{table_of, offered_of}

-- A signed argument that is handed on comes back as v', with v' ≡ v.

pub rescore-view : (es : List ℕ) (ns : List ℤ) (n i : ℕ) (v v' : ℤ) → v' ≡ v → (cs : List Cand)
    → cs ≡ update_at n (cands_of es (set ns i v')) i → cs ≡ update_at n (recount (cands_of es ns) i v) i
rescore-view es ns n i v v' same cs q =
    q ∙ ap (λ (z : List Cand). update_at n z i) (recount-view es ns i v' ∙ ap (recount (cands_of es ns) i) same)

table_path : {a b : List Cand} {n : ℕ} {x : Answer} → a ≡ b → ◌≡◌ {A = Offered} (record { table = record { cands = a; len = n }; answer = x }) (record { table = record { cands = b; len = n }; answer = x })
table_path {a} {b} {n} {x} p = λ i. record { table = record { cands = p i; len = n }; answer = x }

module _ (es : List ℕ) (ns : List ℤ) (len : ℕ) (w : Item) (v v' : ℤ) (same : v' ≡ v) where
  pub seat-view : (cs ds : List Cand) → cs ≡ set (cands_of es ns) len (cand_of w v') → ds ≡ up len cs len → ds ≡ (seat (table_of es ns len) (cand_of w v)).cands
  unfolding seat
  seat-view cs ds p q = q ∙ ap (λ (z : List Cand). up len z len) (p ∙ ap (λ (x : ℤ). set (cands_of es ns) len (cand_of w x)) same)

  -- the test of the code, on the root's count as it is read
  root-less : (b : Bool) → mag (get_or ns 0 (pos 0)) < 2 ^ 63 → lt_z (to_z w64 (of_z w64 (get_or ns 0 (pos 0)))) v' ≡ b → lt_z (get_or ns 0 (pos 0)) v ≡ b
  root-less b f t = rw (to_z-of_z {w = w64} {z = get_or ns 0 (pos 0)} (sfits_of f), same) at t

  pub displace_yes : (es₂ : List ℕ) (ns₂ : List ℤ) (cs : List Cand) (a : Answer) → 0 < length ns → mag (get_or ns 0 (pos 0)) < 2 ^ 63
      → lt_z (to_z w64 (of_z w64 (get_or ns 0 (pos 0)))) v' ≡ true → a ≡ Displaced (get_or es 0 0)
      → cs ≡ set (cands_of es ns) 0 (cand_of w v') → cands_of es₂ ns₂ ≡ down len len cs 0
      → offered_of es₂ ns₂ len a ≡ displace (table_of es ns len) (cand_of w v)
  unfolding displace replace_root
  displace_yes es₂ ns₂ cs a h f t o p q =
      rw (count_at_lem es ns 0 h, root-less true f t, cand_at es ns 0 h, o)
      (table_path (q ∙ ap (λ (z : List Cand). down len len z 0) (p ∙ ap (λ (x : ℤ). set (cands_of es ns) 0 (cand_of w x)) same)))

  pub displace_no : 0 < length ns → mag (get_or ns 0 (pos 0)) < 2 ^ 63 → lt_z (to_z w64 (of_z w64 (get_or ns 0 (pos 0)))) v' ≡ false → offered_of es ns len TurnedAway ≡ displace (table_of es ns len) (cand_of w v)
  unfolding displace
  displace_no h f t = rw (count_at_lem es ns 0 h, root-less false f t)

  module _ (size at : ℕ) (found : at ≡ find w.key (take len (cands_of es ns))) (es₂ : List ℕ) (ns₂ : List ℤ) where
    pub offer_known : at < len → cands_of es₂ ns₂ ≡ update_at len (recount (cands_of es ns) at v') at → offered_of es₂ ns₂ len Rescored ≡ offer size (table_of es ns len) (cand_of w v)
    unfolding offer rescore
    offer_known h q = rw (← found, lt-ltb at len h) (table_path (q ∙ ap (λ (x : ℤ). update_at len (recount (cands_of es ns) at x) at) same))

    pub offer-seat : len ≤ at → len < size → cands_of es₂ ns₂ ≡ (seat (table_of es ns len) (cand_of w v')).cands → offered_of es₂ ns₂ len Seated ≡ offer size (table_of es ns len) (cand_of w v)
    unfolding offer seat
    offer-seat h g q = rw (← found, le-ltb at len h, lt-ltb len size g) (table_path (q ∙ ap (λ (x : ℤ). up len (set (cands_of es ns) len (cand_of w x)) len) same))

    pub offer_full : (a : Answer) → len ≤ at → size ≤ len → offered_of es₂ ns₂ len a ≡ displace (table_of es ns len) (cand_of w v') → offered_of es₂ ns₂ len a ≡ offer size (table_of es ns len) (cand_of w v)
    unfolding offer
    offer_full a h g q = rw (← found, le-ltb at len h, le-ltb len size g) (q ∙ ap (λ (x : ℤ). displace (table_of es ns len) (cand_of w x)) same)

-- the two slices, the answer and the length, each for itself
pub offer_lists : (es : List ℕ) (ns : List ℤ) (len : ℕ) (a : Answer) (o : Offered) → length es ≡ 4 * length ns → offered_of es ns len a ≡ o
    → (es ≡ entries_of o.table.cands) × ((ns ≡ counts_of o.table.cands) × ((a ≡ o.answer) × (len_by a len ≡ o.table.len)))
offer_lists es ns len a o h q = (
  entries_are es ns o.table.cands h (ap (λ (x : Offered). x.table.cands) q),
  (counts_are es ns o.table.cands (ap (λ (x : Offered). x.table.cands) q), (ap (λ (x : Offered). x.answer) q, ap (λ (x : Offered). x.table.len) q)),
)
