-- What the list of an update decides: the statement stands in specs/Told.antt. Assumes nothing.
use mathlib.Core.Path.{refl, sym, ap, ◌∙◌, subst}
use mathlib.Core.Bool.{Bool, true, ◌&&◌}
use mathlib.Core.List.{List}
use Prim.Native.Nat.{ℕ, ◌+◌, ◌≤◌}
use native.Mathlib.Omega.{arith}
use lib.ListN.{get_or}
use lib.IntN.{ℤ, nat_abs}
use borrow.Author.Tests.{not-false}
use Rattle.words.proofs.Bools.{and-true}
use Rattle.header.specs.Header.{Headed, begun}
use Rattle.header.specs.Totals.{update_totals}
use Rattle.header.proofs.Bottoms.{bottom-lt}
use Rattle.heap.specs.Offer.{kept_by}
use Rattle.layer.specs.Layer.{Layer}
use Rattle.layer.proofs.Steps.{add-len, add-flag, add-lengths}
use Rattle.layout.specs.State.{State, layer_at, over_layers, with_head, dims_at}
use Rattle.layout.specs.Slices.{Lent, view, flat}
use Rattle.layout.specs.Answers.{Decides}
use Rattle.layout.specs.inner.Needs.{Standing}
use Rattle.layout.proofs.Lengths.{standing_of, long-view}
use Rattle.layout.proofs.States.{at-fits}
use Rattle.layout.proofs.Flatten.{sized_view}
use Rattle.layout.proofs.Replaced.{Over, over, head_sized}
use Rattle.layout.proofs.Judged.{judged}
use Rattle.layout.proofs.Deciding.{decided}
use Rattle.univmon.specs.declared.Kind.{Kind}
use Rattle.univmon.specs.Updates.{adds_at, answer_at, layer_update_at, mode_of, first_sent, many_sent, bottom_by, update_tests, updated, update_answers}
use Rattle.univmon.specs.Calls.{update_call}
use Rattle.univmon.specs.Told.{UpdateDecides}
use Rattle.univmon.proofs.Touched.{sent-room}

module _ (k : Kind) (r : Lent) (words : List ℕ) (w : ℤ) (z : Standing r) (h : Headed r.head) where
  -- the state with the update begun, and the layers that it is sent to
  abbrev start : State
  start = with_head (view r) (begun r.head (update_totals (nat_abs w)) (mode_of k))

  abbrev many : ℕ
  many = many_sent k (bottom_by (view r) words)

  abbrev first : ℕ
  first = first_sent k (bottom_by (view r) words)

  abbrev adds : ℕ → Layer → Layer
  adds = adds_at r.head.shape words (nat_abs w)

  room : first + many ≤ r.head.shape.layers
  unfolding view
  room = sent-room k (bottom_by (view r) words) r.head.shape.layers (bottom-lt (get_or words 1 0) r.head.shape.layers z.accepted.some)

  replaced : Over adds many first start (over_layers adds many first start)
  unfolding view layer_at
  replaced =
      let v = sized_view r z h in
      over adds many first start (head_sized (view r) v start.head refl v.flags v.lens) room
      (λ l p q. add-lengths (dims_at r.head.shape l) (layer_update_at words (nat_abs w) l) (layer_at (view r) l) (at-fits (view r) (long-view r z) l (omega (arith, room))))

  tells : Decides true (update_answers k (view r) words w) r.head (over_layers adds many first start).head
  unfolding update_answers view layer_at
  tells =
      let d = decided adds (answer_at (view r) words (nat_abs w)) true many first start (over_layers adds many first start) replaced
      (λ l. add-len (dims_at r.head.shape l) (layer_update_at words (nat_abs w) l) (layer_at (view r) l))
      (λ l. add-flag (dims_at r.head.shape l) (layer_update_at words (nat_abs w) l) (layer_at (view r) l)
      ∙ ap (λ (b : Bool). (layer_at (view r) l).flag && b) (sym (and-true (kept_by (answer_at (view r) words (nat_abs w) l))))) in
      record { lens = d.lens; flags = d.flags }

pub update_decides : UpdateDecides
unfolding update_call update_tests updated flat view
update_decides k r t words w h e =
    let j = judged (update_tests k r words w) (flat (updated k (view r) words w)) t e in
    let z = standing_of r (not-false _ j.1.0) (not-false _ j.1.1.0) in
    let d = tells k r words w z h in
    let same = ap (λ (s : Lent). s.head) j.0 in
    subst (Decides true (update_answers k (view r) words w) r.head) (sym same) d
