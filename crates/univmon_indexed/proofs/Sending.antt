-- The loop of an update over layers with an index. Assumes nothing.
use mathlib.Core.Path.{◌≡◌, refl, sym, ap, ap₂, ◌∙◌, subst}
use mathlib.Core.Bool.{Bool, ◌&&◌}
use mathlib.Core.List.{List, [], ◌∷◌}
use Prim.Native.Nat.{ℕ, zero, suc, ◌+◌, ◌*◌, ◌≤◌, ◌<◌}
use native.Mathlib.Omega.{arith}
use lib.ListN.{length}
use lib.Dec.{leb}
use Rattle.heap.specs.declared.Answer.{Answer}
use Rattle.header.specs.declared.Shape.{Shape}
use Rattle.header.specs.Header.{Headed}
use Rattle.layer.specs.Layer.{Layer}
use Rattle.layer_indexed.specs.Adding.{add_layer_in, add_index_in, add_answer_in}
use Rattle.layer_indexed.specs.inner.Needs.{add_grade}
use Rattle.layout.specs.State.{State, dims_at, layer_at, put_layer, over_layers, all_layers}
use Rattle.layout.specs.Slices.{Lent, view}
use Rattle.layout.specs.Records.{record_length}
use Rattle.layout.proofs.States.{all-at}
use Rattle.layout.proofs.InTurn.{InTurn, in_turn-start, in_turn-inside, in_turn_on, in_turn_end}
use Rattle.layout.proofs.Telling.{ToldSoFar, tell_is, tell_same, told-start, told_on, told_end}
use Rattle.layout_index.specs.Tables.{table_length, tables_in, table_at, put_table, over_tables}
use Rattle.layout_index.proofs.Turns.{TablesInTurn, tables_start, tables_on, tables_end}
use Rattle.univmon.specs.Updates.{layer_update_at}
use Rattle.univmon.specs.inner.Needs.{JudgeReady}
use Rattle.univmon_indexed.specs.Updates.{adds_in, table_in, answer_in}
use Rattle.univmon_indexed.specs.inner.Needs.{SendReadyIn, SendsReadyIn, SentOneIn, SentAllIn, fine_at}

-- ---- steps and tests that agree on the layers in question

pub all_agree : (p q : ℕ → Layer → Bool) (k i : ℕ) (s t : State) → ((m : ℕ) → i ≤ m → m < k + i → p m (layer_at s m) ≡ q m (layer_at t m)) → all_layers p k i s ≡ all_layers q k i t
unfolding all_layers
all_agree p q zero i s t h = refl
all_agree p q (suc k) i s t h =
    ap₂ (λ (a b : Bool). a && b) (h i (omega arith) (omega arith)) (all_agree p q k (suc i) s t (λ m a b. h m (omega (arith, a)) (omega (arith, b))))

over_agree : (f g : ℕ → Layer → Layer) (k i : ℕ) (s : State) → ((m : ℕ) (y : Layer) → i ≤ m → f m y ≡ g m y) → over_layers f k i s ≡ over_layers g k i s
unfolding over_layers
over_agree f g zero i s h = refl
over_agree f g (suc k) i s h =
    ap (λ (y : Layer). over_layers f k (suc i) (put_layer s i y)) (h i (layer_at s i) (omega arith))
    ∙ over_agree f g k (suc i) (put_layer s i (g i (layer_at s i))) (λ m y a. h m y (omega (arith, a)))

tables_agree : (sh : Shape) (f g : ℕ → List ℕ) (k i : ℕ) (xs : List ℕ) → ((m : ℕ) → i ≤ m → m < k + i → f m ≡ g m) → over_tables sh f k i xs ≡ over_tables sh g k i xs
unfolding over_tables
tables_agree sh f g zero i xs h = refl
tables_agree sh f g (suc k) i xs h =
    ap (λ (ys : List ℕ). over_tables sh f k (suc i) (put_table sh xs i ys)) (h i (omega arith) (omega arith))
    ∙ tables_agree sh f g k (suc i) (put_table sh xs i (g i)) (λ m a b. h m (omega (arith, a)) (omega (arith, b)))

-- what each layer of a state did, as a list tells it
abbrev pub answers_in : Lent → List ℕ → ℕ → List ℕ → ℕ → List Answer
answers_in r words w xs l = answer_in (view r) words w xs l ∷ []

-- of many layers of r₀ from the first on, those before layer l were sent to in r, their tables are replaced, and the list tells what they did
pub record Sending (r₀ : Lent) (xs₀ words : List ℕ) (w many first : ℕ) (list₀ : List ℕ) (r : Lent) (xs list : List ℕ) (l : ℕ) : Type 0 where
  pub from : first ≤ l
  pub turn : InTurn (adds_in r₀.head.shape words w xs₀) many first r₀ r l
  pub headed : Headed r.head
  pub tables : TablesInTurn r₀.head.shape (table_in (view r₀) words w xs₀) many first xs₀ xs l
  pub told : ToldSoFar 1 (answers_in r₀ words w xs₀) many first list₀ list l

module _ (r₀ : Lent) (xs₀ words : List ℕ) (w many first : ℕ) (p : SendsReadyIn r₀ xs₀ words w many first) (list₀ : List ℕ) where
  abbrev shape₀ : Shape
  shape₀ = r₀.head.shape

  ready₀ : JudgeReady r₀ words w many first
  ready₀ = p.judge.judge

  pub sending_start : Sending r₀ xs₀ words w many first list₀ r₀ xs₀ list₀ first
  sending_start =
      record {
        from = omega arith;
        turn = in_turn-start (adds_in shape₀ words w xs₀) many first r₀ ready₀.standing;
        headed = ready₀.headed;
        tables = tables_start shape₀ (table_in (view r₀) words w xs₀) many first xs₀;
        told = told-start 1 (answers_in r₀ words w xs₀) many first list₀;
      }

  module _ (r : Lent) (xs list : List ℕ) (l : ℕ) (v : Sending r₀ xs₀ words w many first list₀ r xs list l) where
    pub sending_end : many + first ≤ l → SentAllIn words w many first r₀ r xs₀ xs list₀ list
    sending_end h =
        record {
          layers = in_turn_end v.turn h;
          standing = v.turn.standing;
          tables = tables_end shape₀ (table_in (view r₀) words w xs₀) many first xs₀ xs l v.tables (omega (arith, h, v.turn.within));
          told = told_end 1 (answers_in r₀ words w xs₀) many first list₀ list l v.told (omega (arith, h, v.turn.within));
        }

    pub sending_long : length xs ≡ tables_in r.head.shape
    sending_long = v.tables.long ∙ p.judge.tables ∙ ap (λ (sh : Shape). tables_in sh) (sym v.turn.shape)

    -- of the layers from l on: layer and table are as they were, and so are what they are asked, what they would leave and what they would answer
    module _ (m : ℕ) (a : l ≤ m) (b : m < many + first) where
      table_same : table_at r.head.shape xs m ≡ table_at shape₀ xs₀ m
      table_same = ap (λ (sh : Shape). table_at sh xs m) v.turn.shape ∙ v.tables.ahead m a

      layer-same : layer_at (view r) m ≡ layer_at (view r₀) m
      layer-same = v.turn.ahead m a b

      fine-same : fine_at r.head.shape words w xs m (layer_at (view r) m) ≡ fine_at shape₀ words w xs₀ m (layer_at (view r₀) m)
      fine-same =
          ap (λ (sh : Shape). fine_at sh words w xs m (layer_at (view r) m)) v.turn.shape
          ∙ ap₂ (λ (ys : List ℕ) (y : Layer). leb 4 (add_grade (dims_at shape₀ m) (layer_update_at words w m) ys y)) (v.tables.ahead m a) layer-same

      table-left : table_in (view r) words w xs m ≡ table_in (view r₀) words w xs₀ m
      unfolding view
      table-left =
          ap (λ (sh : Shape). add_index_in (dims_at sh m) (layer_update_at words w m) (table_at sh xs m) (layer_at (view r) m)) v.turn.shape
          ∙ ap₂ (λ (ys : List ℕ) (y : Layer). add_index_in (dims_at shape₀ m) (layer_update_at words w m) ys y) (v.tables.ahead m a) layer-same

      answer-left : answer_in (view r) words w xs m ≡ answer_in (view r₀) words w xs₀ m
      unfolding view
      answer-left =
          ap (λ (sh : Shape). add_answer_in (dims_at sh m) (layer_update_at words w m) (table_at sh xs m) (layer_at (view r) m)) v.turn.shape
          ∙ ap₂ (λ (ys : List ℕ) (y : Layer). add_answer_in (dims_at shape₀ m) (layer_update_at words w m) ys y) (v.tables.ahead m a) layer-same

    step_same : (m : ℕ) (y : Layer) → l ≤ m → adds_in r.head.shape words w xs m y ≡ adds_in shape₀ words w xs₀ m y
    step_same m y a =
        ap (λ (sh : Shape). adds_in sh words w xs m y) v.turn.shape
        ∙ ap (λ (ys : List ℕ). add_layer_in (dims_at shape₀ m) (layer_update_at words w m) ys y) (v.tables.ahead m a)

    module _ (h : l < many + first) where
      inside : l < r.head.shape.layers
      inside = in_turn-inside v.turn h ready₀.inside

      -- the next layer may be sent to
      pub sending_ready : SendReadyIn r xs words w l
      sending_ready =
          record {
            judge = record {
              judge = record {
                standing = v.turn.standing;
                headed = v.headed;
                recorded = subst (λ (sh : Shape). length words ≡ record_length sh.layers) (sym v.turn.shape) ready₀.recorded;
                light = ready₀.light;
                inside = omega (arith, inside);
              };
              tables = sending_long;
            };
            fine = fine-same l (omega arith) h ∙ all-at (fine_at shape₀ words w xs₀) many first (view r₀) l v.from h p.fine;
          }

      -- its place is in the list
      pub sending_room : 2 * shape₀.layers ≤ length list₀ → 2 * l + 2 ≤ length list
      sending_room q = omega (arith, q, h, ready₀.inside, v.told.long)

      -- the layer was sent to
      pub sending_on : (t : Lent) (ys list' : List ℕ) → 2 * shape₀.layers ≤ length list₀ → SentOneIn words w l r t xs ys list list' → Headed t.head
          → Sending r₀ xs₀ words w many first list₀ t ys list' (l + 1)
      sending_on t ys list' q o hd =
          record {
            from = omega (arith, v.from);
            turn = in_turn_on v.turn h ready₀.inside (adds_in r.head.shape words w xs l (layer_at (view r) l)) (step_same l (layer_at (view r) l) (omega arith)) o.fits t o.layers o.standing;
            headed = hd;
            tables = tables_on shape₀ (table_in (view r₀) words w xs₀) many first xs₀ xs l v.tables p.judge.tables (omega (arith, h, ready₀.inside)) (table_in (view r) words w xs l)
                (table-left l (omega arith) h) (o.long ∙ ap (λ (sh : Shape). table_length sh) v.turn.shape) ys (o.tables ∙ ap (λ (sh : Shape). put_table sh xs l (table_in (view r) words w xs l)) v.turn.shape);
            told = told_on 1 (answers_in r₀ words w xs₀) many first list₀ list l v.told (sending_room q) (answers_in r words w xs l)
                (ap (λ (a : Answer). a ∷ []) (answer-left l (omega arith) h)) list' (o.told ∙ tell_is list l (answer_in (view r) words w xs l));
          }

    -- the layers from l on may be sent to, and were
    module _ (k : ℕ) (e : k + l ≡ many + first) where
      pub sending_rest : SendsReadyIn r₀ xs₀ words w k l → SendsReadyIn r xs words w k l
      sending_rest q =
          record {
            judge = record {
              judge = record {
                standing = v.turn.standing;
                headed = v.headed;
                recorded = subst (λ (sh : Shape). length words ≡ record_length sh.layers) (sym v.turn.shape) q.judge.judge.recorded;
                light = q.judge.judge.light;
                inside = subst (λ (sh : Shape). l + k ≤ sh.layers) (sym v.turn.shape) q.judge.judge.inside;
              };
              tables = sending_long;
            };
            fine = all_agree (fine_at r.head.shape words w xs) (fine_at shape₀ words w xs₀) k l (view r) (view r₀) (λ m a b. fine-same m a (omega (arith, b, e))) ∙ q.fine;
          }

      pub sending_all : (t : Lent) (ys list' : List ℕ) → SentAllIn words w k l r t xs ys list list' → SentAllIn words w many first r₀ t xs₀ ys list₀ list'
      sending_all t ys list' o =
          record {
            layers = o.layers ∙ over_agree (adds_in r.head.shape words w xs) (adds_in shape₀ words w xs₀) k l (view r) step_same ∙ v.turn.goes k e;
            standing = o.standing;
            tables = o.tables ∙ ap (λ (sh : Shape). over_tables sh (table_in (view r) words w xs) k l xs) v.turn.shape
                ∙ tables_agree shape₀ (table_in (view r) words w xs) (table_in (view r₀) words w xs₀) k l xs (λ m a b. table-left m a (omega (arith, b, e))) ∙ v.tables.goes k e;
            told = o.told ∙ tell_same 1 (answers_in r words w xs) (answers_in r₀ words w xs₀) k l list (λ m a b. ap (λ (z : Answer). z ∷ []) (answer-left m a (omega (arith, b, e)))) ∙ v.told.goes k e;
          }
