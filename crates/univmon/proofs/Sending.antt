-- The loop of an update over layers. Assumes nothing.
use mathlib.Core.Path.{◌≡◌, sym, ap, ◌∙◌, subst}
use mathlib.Core.Bool.{Bool, true}
use mathlib.Core.List.{List, [], ◌∷◌}
use Prim.Native.Nat.{ℕ, ◌+◌, ◌*◌, ◌≤◌, ◌<◌}
use native.Mathlib.Omega.{arith}
use lib.ListN.{length, drop, replicate, length-append, length-replicate}
use Rattle.heap.specs.declared.Answer.{Answer}
use Rattle.header.specs.declared.Shape.{Shape}
use Rattle.header.specs.Header.{Headed}
use Rattle.layer.specs.Layer.{Layer, add_layer, add_answer, layer_update}
use Rattle.layer.proofs.Steps.{add-lengths}
use Rattle.layout.specs.State.{dims_at, layer_at, over_layers, all_layers}
use Rattle.layout.specs.Slices.{Lent, view}
use Rattle.layout.specs.Records.{record_length, item_at}
use Rattle.layout.proofs.Lengths.{long-view}
use Rattle.layout.proofs.States.{at-fits, all_same}
use Rattle.layout.proofs.InTurn.{InTurn, in_turn-start, in_turn-inside, in_turn-next, in_turn-test, in_turn_on, in_turn_end}
use Rattle.layout.proofs.Telling.{ToldSoFar, tell_is, tell_same, told-start, told_on, told_end}
use Rattle.univmon.specs.inner.Needs.{SendReady, SendsReady, SentOne, SentAll, zeroed_for}
use Rattle.univmon.specs.Updates.{reads_at, fits_at, adds_at, answer_at, layer_update_at}

-- what each layer of a state did, as a list tells it
abbrev pub answers_in : Lent → List ℕ → ℕ → ℕ → List Answer
answers_in r words w l = answer_at (view r) words w l ∷ []

-- a list with zeros for every layer has room for them
pub zeroed_room : (sh : Shape) (list : List ℕ) → 2 * sh.layers ≤ length (zeroed_for sh list)
zeroed_room sh list = omega (arith, length-append (replicate (2 * sh.layers) 0) (drop (2 * sh.layers) list), length-replicate {A = ℕ} (2 * sh.layers) 0)

-- of many layers of r₀ from the first on, those before layer l were sent to in r, and the list tells what they did
pub record Sending (r₀ : Lent) (words : List ℕ) (w many first : ℕ) (list₀ : List ℕ) (r : Lent) (list : List ℕ) (l : ℕ) : Type 0 where
  pub from : first ≤ l
  pub turn : InTurn (adds_at r₀.head.shape words w) many first r₀ r l
  pub headed : Headed r.head
  pub told : ToldSoFar 1 (answers_in r₀ words w) many first list₀ list l

module _ (r₀ : Lent) (words : List ℕ) (w many first : ℕ) (p : SendsReady r₀ words w many first) (list₀ : List ℕ) where
  pub sending_start : Sending r₀ words w many first list₀ r₀ list₀ first
  sending_start =
      record {
        from = omega arith;
        turn = in_turn-start (adds_at r₀.head.shape words w) many first r₀ p.standing;
        headed = p.headed;
        told = told-start 1 (answers_in r₀ words w) many first list₀;
      }

  module _ (r : Lent) (list : List ℕ) (l : ℕ) (v : Sending r₀ words w many first list₀ r list l) where
    pub sending_end : many + first ≤ l → SentAll words w many first r₀ r list₀ list
    sending_end h =
        record {
          layers = in_turn_end v.turn h;
          standing = v.turn.standing;
          told = told_end 1 (answers_in r₀ words w) many first list₀ list l v.told (omega (arith, h, v.turn.within));
        }

    module _ (h : l < many + first) where
      inside : l < r.head.shape.layers
      inside = in_turn-inside v.turn h p.inside

      -- the next layer may be sent to
      pub sending_ready : SendReady r words w l
      sending_ready =
          record {
            standing = v.turn.standing;
            headed = v.headed;
            recorded = subst (λ (sh : Shape). length words ≡ record_length sh.layers) (sym v.turn.shape) p.recorded;
            light = p.light;
            inside = inside;
            read = subst (λ (sh : Shape). reads_at sh words w l (layer_at (view r) l) ≡ true) (sym v.turn.shape) (in_turn-test v.turn h p.inside v.from (reads_at r₀.head.shape words w) p.read);
            fit = subst (λ (sh : Shape). fits_at sh words w l (layer_at (view r) l) ≡ true) (sym v.turn.shape) (in_turn-test v.turn h p.inside v.from (fits_at r₀.head.shape words w) p.fit);
          }

      -- its place is in the list
      pub sending_room : 2 * r₀.head.shape.layers ≤ length list₀ → 2 * l + 2 ≤ length list
      sending_room q = omega (arith, q, h, p.inside, v.told.long)

      -- it did what it would have done at the start
      answer_is : answer_at (view r) words w l ≡ answer_at (view r₀) words w l
      unfolding view
      answer_is =
          ap (λ (sh : Shape). add_answer (dims_at sh l) (layer_update_at words w l) (layer_at (view r) l)) v.turn.shape
          ∙ ap (λ (y : Layer). add_answer (dims_at r₀.head.shape l) (layer_update_at words w l) y) (in_turn-next v.turn h p.inside)

      -- the layer was sent to
      pub sending_on : (t : Lent) (list' : List ℕ) → 2 * r₀.head.shape.layers ≤ length list₀ → SentOne words w l r t list list' → Headed t.head → Sending r₀ words w many first list₀ t list' (l + 1)
      unfolding view
      sending_on t list' q o hd =
          record {
            from = omega (arith, v.from);
            turn = in_turn_on v.turn h p.inside (add_layer (dims_at r.head.shape l) (layer_update (item_at words l) w) (layer_at (view r) l))
                (ap (λ (sh : Shape). adds_at sh words w l (layer_at (view r) l)) v.turn.shape)
                (add-lengths (dims_at r.head.shape l) (layer_update (item_at words l) w) (layer_at (view r) l) (at-fits (view r) (long-view r v.turn.standing) l inside)) t o.layers o.standing;
            headed = hd;
            told = told_on 1 (answers_in r₀ words w) many first list₀ list l v.told (sending_room q) (answers_in r words w l)
                (ap (λ (a : Answer). a ∷ []) answer_is) list' (o.told ∙ tell_is list l (answer_at (view r) words w l));
          }

    -- the layers from l on are as they were, and so are what they are asked and what they would answer
    module _ (k : ℕ) (e : k + l ≡ many + first) where
      test-same : (p : ℕ → Layer → Bool) → all_layers p k l (view r) ≡ all_layers p k l (view r₀)
      test-same p = all_same p k l (view r) (view r₀) (λ m q h. v.turn.ahead m q (omega arith))

      pub sending_rest : SendsReady r₀ words w k l → SendsReady r words w k l
      sending_rest q =
          record {
            standing = v.turn.standing;
            headed = v.headed;
            recorded = subst (λ (sh : Shape). length words ≡ record_length sh.layers) (sym v.turn.shape) q.recorded;
            light = q.light;
            inside = subst (λ (sh : Shape). l + k ≤ sh.layers) (sym v.turn.shape) q.inside;
            read = subst (λ (sh : Shape). all_layers (reads_at sh words w) k l (view r) ≡ true) (sym v.turn.shape) (test-same (reads_at r₀.head.shape words w) ∙ q.read);
            fit = subst (λ (sh : Shape). all_layers (fits_at sh words w) k l (view r) ≡ true) (sym v.turn.shape) (test-same (fits_at r₀.head.shape words w) ∙ q.fit);
          }

      answers-same : (m : ℕ) → l ≤ m → m < k + l → answers_in r words w m ≡ answers_in r₀ words w m
      unfolding view
      answers-same m q h =
          ap (λ (sh : Shape). add_answer (dims_at sh m) (layer_update_at words w m) (layer_at (view r) m) ∷ []) v.turn.shape
          ∙ ap (λ (y : Layer). add_answer (dims_at r₀.head.shape m) (layer_update_at words w m) y ∷ []) (v.turn.ahead m q (omega arith))

      -- they were sent to as well
      pub sending_all : (t : Lent) (list' : List ℕ) → SentAll words w k l r t list list' → SentAll words w many first r₀ t list₀ list'
      sending_all t list' o =
          record {
            layers = o.layers ∙ ap (λ (sh : Shape). over_layers (adds_at sh words w) k l (view r)) v.turn.shape ∙ v.turn.goes k e;
            standing = o.standing;
            told = o.told ∙ tell_same 1 (answers_in r words w) (answers_in r₀ words w) k l list answers-same ∙ v.told.goes k e;
          }
