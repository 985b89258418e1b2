-- What the list of a merge decides: the statement stands in specs/Told.antt. Assumes nothing.
use mathlib.Core.Path.{◌≡◌, refl, sym, ap, ◌∙◌, subst}
use mathlib.Core.Bool.{Bool, cond, ◌&&◌}
use mathlib.Core.List.{List, [], ◌∷◌, ◌++◌}
use Prim.Native.Nat.{ℕ, zero, suc, ◌+◌, ◌*◌, ◌≤◌, ◌<◌}
use native.Mathlib.Omega.{arith}
use native.Mathlib.Nat.{zero-add}
use lib.ListN.{length, get_or}
use lib.Dec.{eqb, ltb}
use Rattle.words.specs.Parts.{part}
use Rattle.words.proofs.Tests.{number_off, off_first, off_rest}
use Rattle.header.specs.Header.{Headed, begun}
use Rattle.heap.specs.declared.Answer.{Answer}
use Rattle.heap.specs.Places.{code_of, places}
use Rattle.heap.proofs.Places.{code_kept}
use Rattle.layer.specs.Layer.{Layer}
use Rattle.layer.specs.Merge.{merge_layer}
use Rattle.layer.proofs.Merges.{merge-lengths}
use Rattle.layer.proofs.Answers.{seated_in, all_kept, merge-len, merge-flag, merge-room}
use Rattle.layout.specs.State.{State, dims_at, layer_at, over_layers, with_head}
use Rattle.layout.specs.Slices.{Lent, view, flat}
use Rattle.layout.specs.Outcomes.{lent_tests}
use Rattle.layout.proofs.Lengths.{long-view}
use Rattle.layout.proofs.States.{at-fits}
use Rattle.layout.proofs.Flatten.{sized_view}
use Rattle.layout.proofs.Replaced.{Over, over, head_sized}
use Rattle.layout.proofs.Judged.{judged}
use Rattle.layout.proofs.Telling.{layer-part}
use Rattle.univmon_merge.specs.Merges.{heads_tests, pair_tests, merge_tests, merged, merge_answers, merge_call}
use Rattle.univmon_merge.specs.Told.{seats_told, none_lost, MergeDecided, MergeDecides}
use Rattle.univmon_merge.specs.inner.Pairs.{Paired, merges_with, answers_with}
use Rattle.univmon_merge.proofs.MergeCalls.{paired_of}
use Rattle.univmon_merge.proofs.Pairing.{four}

-- ---- places that tell answers say as much as these

seats-told : (n : ℕ) (xs : List Answer) → length xs ≤ n → seats_told (places n xs) ≡ seated_in xs
unfolding seats_told places seated_in
seats-told zero [] h = refl
seats-told zero (a ∷ xs) h = absurd (omega arith)
seats-told (suc n) [] h = zero-add _ ∙ seats-told n [] (omega arith)
seats-told (suc n) (a ∷ xs) h = ap (λ (k : ℕ). cond (eqb (code_of a) 2) 1 0 + k) (seats-told n xs (omega arith))

none-lost : (n : ℕ) (xs : List Answer) → length xs ≤ n → none_lost (places n xs) ≡ all_kept xs
unfolding none_lost places all_kept
none-lost zero [] h = refl
none-lost zero (a ∷ xs) h = absurd (omega arith)
none-lost (suc n) [] h = none-lost n [] (omega arith)
none-lost (suc n) (a ∷ xs) h = ap (λ (b : Bool). ltb (code_of a) 3 && b) (none-lost n xs (omega arith)) ∙ ap (λ (b : Bool). b && all_kept xs) (sym (code_kept a))

-- ---- two states of one shape

module _ (r q : Lent) (p : Paired r q r.head.shape.layers 0) (h : Headed r.head) where
  -- the state with the merge begun, and the step at each layer
  abbrev start : State
  start = with_head (view r) (begun r.head q.head.totals q.head.mode)

  abbrev step : ℕ → Layer → Layer
  step = merges_with r.head.shape (view q)

  abbrev here : ℕ → Layer
  here l = layer_at (view r) l

  abbrev there : ℕ → Layer
  there l = layer_at (view q) l

  replaced : Over step r.head.shape.layers 0 start (over_layers step r.head.shape.layers 0 start)
  unfolding view layer_at
  replaced =
      let v = sized_view r p.standing h in
      over step r.head.shape.layers 0 start (head_sized (view r) v start.head refl v.flags v.lens) (omega arith)
      (λ l a b. merge-lengths (dims_at r.head.shape l) (here l) (there l) (at-fits (view r) (long-view r p.standing) l (omega arith))
      (rw (sym p.same) (at-fits (view q) (long-view q p.other) l (rw p.same (omega arith)))))

  module _ (l : ℕ) (i : l < r.head.shape.layers) where
    -- the layer's places
    words_are : part (4 * r.head.shape.heap_size * l) (4 * r.head.shape.heap_size) (merge_answers (view r) (view q)) ≡ places (2 * r.head.shape.heap_size) (answers_with (view r) (view q) l)
    unfolding merge_answers view
    words_are =
        ap (λ (w : ℕ). part (w * l) w (merge_answers (view r) (view q))) (sym (four r.head.shape.heap_size))
        ∙ layer-part (2 * r.head.shape.heap_size) (answers_with (view r) (view q)) r.head.shape.layers l i

    few : length (answers_with (view r) (view q) l) ≤ 2 * r.head.shape.heap_size
    unfolding view layer_at
    few = merge-room (dims_at r.head.shape l) (here l) (there l) (p.standing.lens l i) (omega (arith, other))
      where
        other : get_or q.head.lens l 0 ≤ r.head.shape.heap_size
        other = rw (sym p.same) (p.other.lens l (rw p.same i))

    merged-at : layer_at (over_layers step r.head.shape.layers 0 start) l ≡ merge_layer (dims_at r.head.shape l) (here l) (there l)
    unfolding view layer_at
    merged-at = replaced.inside l (omega arith) (omega arith)

    some : 0 < r.head.shape.heap_size
    some = p.standing.accepted.seats

    pub told-len : (layer_at (over_layers step r.head.shape.layers 0 start) l).table.len
        ≡ seats_told (part (4 * r.head.shape.heap_size * l) (4 * r.head.shape.heap_size) (merge_answers (view r) (view q)))
    unfolding view
    told-len =
        ap (λ (y : Layer). y.table.len) merged-at ∙ merge-len (dims_at r.head.shape l) (here l) (there l)
        ∙ sym (ap seats_told words_are ∙ seats-told (2 * r.head.shape.heap_size) (answers_with (view r) (view q) l) few)

    pub told-flag : (layer_at (over_layers step r.head.shape.layers 0 start) l).flag
        ≡ (here l).flag && (there l).flag && none_lost (part (4 * r.head.shape.heap_size * l) (4 * r.head.shape.heap_size) (merge_answers (view r) (view q)))
    unfolding view
    told-flag =
        ap (λ (y : Layer). y.flag) merged-at ∙ merge-flag (dims_at r.head.shape l) some (here l) (there l)
        ∙ ap (λ (b : Bool). (here l).flag && (there l).flag && b) (sym (ap none_lost words_are ∙ none-lost (2 * r.head.shape.heap_size) (answers_with (view r) (view q) l) few))

  decides : MergeDecided r q (flat (merged (view r) (view q))) (merge_answers (view r) (view q))
  unfolding merged flat view layer_at
  decides = record { lens = λ l i. told-len l i; flags = λ l i. told-flag l i }

pub merge_decides : MergeDecides
unfolding merge_call merge_tests
merge_decides r q t h e =
    let j = judged (merge_tests r q) (flat (merged (view r) (view q))) t e in
    let heads = heads_tests r.head q.head in
    let pairs = pair_tests r.head.shape.layers (view r) (view q) in
    let others = off_rest (lent_tests r) (lent_tests q ++ (heads ++ pairs)) j.1 in
    let inner = off_rest (lent_tests q) (heads ++ pairs) others in
    let own = number_off (lent_tests r) (off_first (lent_tests r) (lent_tests q ++ (heads ++ pairs)) j.1) in
    let other = number_off (lent_tests q) (off_first (lent_tests q) (heads ++ pairs) others) in
    let p = paired_of r q own other (number_off heads (off_first heads pairs inner)) in
    subst (λ (u : Lent). MergeDecided r q u (merge_answers (view r) (view q))) (sym j.0) (decides r q p h)
