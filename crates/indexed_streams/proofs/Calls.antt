-- One call with an index and the same call without one. Assumes nothing.
use mathlib.Core.Path.{◌≡◌, refl, sym, ap, ◌∙◌, subst}
use mathlib.Core.Bool.{Bool, true, false, cond}
use mathlib.Core.List.{List, []}
use Prim.Native.Nat.{ℕ}
use lib.ListN.{length}
use lib.Dec.{eqb}
use borrow.Author.Tests.{ne_eqb}
use Rattle.layout.specs.Slices.{Lent}
use Rattle.layout.specs.Outcomes.{Outcome, Left, left, left_by}
use Rattle.layout.specs.Answers.{list_left}
use Rattle.layout.proofs.Telling.{list-kept}
use Rattle.layout_index.specs.Tables.{index_left}
use Rattle.univmon.specs.Calls.{update_list_call, update_call, weight_call, mark_call, mark_layer_call}
use Rattle.univmon.specs.Updates.{update_tests}
use Rattle.univmon_delta.specs.Deltas.{delta_list_call, delta_call, delta_tests}
use Rattle.univmon_merge.specs.Merges.{merge_list_call, merge_call, merge_tests}
use Rattle.state_check.specs.Reached.{Passing}
use Rattle.state_check.proofs.NeverNine.{clear_done}
use Rattle.indexed_streams.specs.Runs.{Asked, Walked, walked, Indexed, Sought, sought, headed, walk_ask, walk_join, seek_ask, seek_join}
use Rattle.indexed_streams.proofs.Keeps.{Kept}
use Rattle.indexed_streams.proofs.Judges.{refusal-some}
use Rattle.indexed_streams.proofs.Updates.{update_same, update_keeps, update-told}
use Rattle.indexed_streams.proofs.Deltas.{delta-same, delta_keeps, delta-told}
use Rattle.indexed_streams.proofs.Joins.{merge-same, merge_keeps}
use Rattle.indexed_streams.proofs.Heads.{weigh_keeps, mark_keeps, mark-layer_keeps, clear_keeps}

-- the same answer and list, the same header and slices, and the index passes
pub record SameCall (s : Sought) (w : Walked) : Type 0 where
  pub told : s.told ≡ w.told
  pub lends : s.relay.lends ≡ w.lends
  pub kept : Kept s.relay.lends s.relay.index

-- ---- calls that are judged

module _ (r : Lent) (xs : List ℕ) (p : Kept r xs) (made told' told list : List ℕ) where
  -- a refused call has told nothing and left everything
  refused : (m : ℕ) → (m ≡ 0 → ⊥) → SameCall (sought (left m r) made xs told' list) (walked (left m r) told list)
  unfolding index_left
  refused m h =
      record {
        told = ap (λ (z : List ℕ). record { refusal = m; list = z }) (sym (list-kept m told' list h) ∙ list-kept m told list h);
        lends = refl;
        kept = rw (ne_eqb m 0 h) p;
      }

  accepted : (t : Lent) → told' ≡ told → Kept t made → SameCall (sought (left 0 t) made xs told' list) (walked (left 0 t) told list)
  unfolding index_left
  accepted t e k = record { told = ap (λ (z : List ℕ). record { refusal = 0; list = list_left 0 z list }) e; lends = refl; kept = k }

  judged_same : (o' o : Outcome) → o' ≡ o → ((m : ℕ) → o ≡ Outcome.no m → m ≡ 0 → ⊥) → ((t : Lent) → o ≡ Outcome.yes t → (told' ≡ told) × Kept t made)
      → SameCall (sought (left_by r o') made xs told' list) (walked (left_by r o) told list)
  judged_same o' (Outcome.no m) e some good = subst (λ (z : Outcome). SameCall (sought (left_by r z) made xs told' list) (walked (left m r) told list)) (sym e) (refused m (some m refl))
  judged_same o' (Outcome.yes t) e some good = subst (λ (z : Outcome). SameCall (sought (left_by r z) made xs told' list) (walked (left 0 t) told list)) (sym e) (accepted t (good t refl).0 (good t refl).1)

-- ---- calls on the header alone leave the index

index_stays : (n : ℕ) (xs : List ℕ) → index_left n xs xs ≡ xs
unfolding index_left
index_stays n xs = go (eqb n 0)
  where
    go : (b : Bool) → cond b xs xs ≡ xs
    go true = refl
    go false = refl

head-same : (l : Left) (xs : List ℕ) → Kept l.lends xs → SameCall (sought l xs xs [] []) (walked l [] [])
head-same l xs k = record { told = refl; lends = refl; kept = subst (Kept l.lends) (sym (index_stays l.refusal xs)) k }

-- ---- every call

pub ask-same : (a : Asked) (z : Indexed) → Kept z.lends z.index → SameCall (seek_ask a z) (walk_ask a z.lends)
unfolding seek_ask walk_ask update_list_call update_call update_tests delta_list_call delta_call delta_tests
ask-same (Asked.update k words w list) z p =
    let r = z.lends in
    let xs = z.index in
    judged_same r xs p _ _ _ list _ _ (update_same k r xs words w p (length list)) (refusal-some _ (length list) (update_tests k r words w) _ refl)
    (λ t e. (update-told k r xs words w p (length list) t e, update_keeps k r xs words w p (length list) t e))
ask-same (Asked.arrive words a list) z p =
    let r = z.lends in
    let xs = z.index in
    judged_same r xs p _ _ _ list _ _ (delta-same r xs words a p (length list)) (refusal-some _ (length list) (delta_tests r words a) _ refl)
    (λ t e. (delta-told r xs words a p (length list) t e, delta_keeps r xs words a p (length list) t e))
ask-same (Asked.weigh w) z p = head-same (headed z.lends (weight_call z.lends.head w)) z.index (weigh_keeps z.lends z.index p w)
ask-same Asked.mark z p = head-same (headed z.lends (mark_call z.lends.head)) z.index (mark_keeps z.lends z.index p)
ask-same (Asked.mark-layer l) z p = head-same (headed z.lends (mark_layer_call z.lends.head l)) z.index (mark-layer_keeps z.lends z.index p l)
ask-same Asked.clear z p = rw (clear_done z.lends p.passing.ok) (accepted z.lends z.index p _ [] [] [] _ refl (clear_keeps z.lends z.index p))

pub join-same : (z : Indexed) (q : Lent) (list : List ℕ) → Kept z.lends z.index → Passing q → SameCall (seek_join z q list) (walk_join z.lends q list)
unfolding seek_join walk_join merge_list_call merge_call merge_tests
join-same z q list p g =
    let r = z.lends in
    let xs = z.index in
    judged_same r xs p _ _ _ list _ _ (merge-same r xs q p g (length list)) (refusal-some _ (length list) (merge_tests r q) _ refl) (λ t e. (refl, merge_keeps r xs q p g (length list) t e))
