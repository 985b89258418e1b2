-- What the list of a delta decides: the statement stands in specs/Told.antt. Assumes nothing.
use mathlib.Core.Path.{refl, sym, ap, subst}
use mathlib.Core.List.{List}
use Prim.Native.Nat.{ℕ, ◌<◌}
use native.Mathlib.Omega.{arith}
use borrow.Author.Tests.{not-false}
use Rattle.words.proofs.Tests.{number_off}
use Rattle.header.specs.Header.{Headed, with_mode, settled}
use Rattle.layer.specs.Layer.{Layer}
use Rattle.layer.specs.Delta.{delta_layer, delta_answer}
use Rattle.layer.proofs.Steps.{delta-len, delta-flag, delta-lengths}
use Rattle.layout.specs.State.{State, layer_at, over_layers, with_head, dims_at}
use Rattle.layout.specs.Slices.{Lent, view, flat}
use Rattle.layout.specs.Answers.{Decides}
use Rattle.layout.specs.inner.Needs.{Standing}
use Rattle.layout.proofs.Lengths.{standing_of, long-view}
use Rattle.layout.proofs.States.{at-fits}
use Rattle.layout.proofs.Flatten.{sized_view}
use Rattle.layout.proofs.Replaced.{Over, over, head_sized}
use Rattle.layout.proofs.Judged.{judged}
use Rattle.layout.proofs.Deciding.{decided}
use Rattle.univmon_delta.specs.Deltas.{Arrival, every_insert, delta_by, delta_tests, arrived, delta_answers, delta_call}
use Rattle.univmon_delta.specs.Told.{DeltaDecides}
use Rattle.univmon_delta.proofs.Refusing.{arrives_of}

module _ (r : Lent) (words : List ℕ) (a : Arrival) (z : Standing r) (h : Headed r.head) (inside : a.layer < r.head.shape.layers) where
  -- the state with its mode settled, and the step at its one layer
  abbrev start : State
  start = with_head (view r) (with_mode r.head (settled r.head.mode))

  abbrev step : ℕ → Layer → Layer
  step l y = delta_layer (dims_at r.head.shape l) (delta_by a words) y

  replaced : Over step 1 a.layer start (over_layers step 1 a.layer start)
  unfolding view layer_at
  replaced =
      let v = sized_view r z h in
      over step 1 a.layer start (head_sized (view r) v start.head refl v.flags v.lens) (omega arith)
      (λ l p q. delta-lengths (dims_at r.head.shape l) (delta_by a words) (layer_at (view r) l) (at-fits (view r) (long-view r z) l (omega arith)))

  tells : Decides (every_insert a.fidelity) (delta_answers (view r) words a) r.head (arrived (view r) words a).head
  unfolding delta_answers arrived over_layers view layer_at
  tells =
      let d = decided step (λ l. delta_answer (dims_at r.head.shape l) (delta_by a words) (layer_at (view r) l)) (every_insert a.fidelity) 1 a.layer start (over_layers step 1 a.layer start) replaced
      (λ l. delta-len (dims_at r.head.shape l) (delta_by a words) (layer_at (view r) l))
      (λ l. delta-flag (dims_at r.head.shape l) (delta_by a words) (layer_at (view r) l)) in
      record { lens = d.lens; flags = d.flags }

pub delta_decides : DeltaDecides
unfolding delta_call delta_tests flat view
delta_decides r t words a h e =
    let j = judged (delta_tests r words a) (flat (arrived (view r) words a)) t e in
    let z = standing_of r (not-false _ j.1.0) (not-false _ j.1.1.0) in
    let inside = (arrives_of r words a r.head.mode (number_off (delta_tests r words a) j.1)).placed.inside in
    subst (Decides (every_insert a.fidelity) (delta_answers (view r) words a) r.head) (sym (ap (λ (s : Lent). s.head) j.0)) (tells r words a z h inside)
