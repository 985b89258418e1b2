-- The loops over the layers of two states: the tests, and the merge. Assumes nothing.
use mathlib.Core.Path.{◌≡◌, sym, ap, ap₂, ◌∙◌, subst}
use mathlib.Core.List.{List}
use Prim.Native.Nat.{ℕ, ◌+◌, ◌*◌, ◌≤◌, ◌<◌}
use native.Mathlib.Omega.{arith}
use lib.ListN.{length}
use Rattle.header.specs.declared.Shape.{Shape}
use Rattle.layer.specs.Merge.{merge_answer}
use Rattle.layer.specs.Layer.{Layer}
use Rattle.layer.specs.inner.Needs.{Fits}
use Rattle.layer.proofs.Merges.{merge-lengths}
use Rattle.layout.specs.State.{dims_at, layer_at, put_layer, over_layers}
use Rattle.layout.specs.Slices.{Lent, view}
use Rattle.layout.specs.inner.Needs.{Standing}
use Rattle.layout.specs.inner.Telling.{put_places}
use Rattle.layout.proofs.States.{at-fits, all-at}
use Rattle.layout.proofs.Lengths.{long-view}
use Rattle.layout.proofs.InTurn.{InTurn, in_turn-start, in_turn-inside, in_turn-next, in_turn-test, in_turn_on, in_turn_end}
use Rattle.layout.proofs.Telling.{ToldSoFar, told_on}
use Rattle.univmon_merge.specs.inner.Pairs.{Paired, PairRead, PairsRead, MergeReady, MergesReady, reads_with, fits_with, merges_with, answers_with}
use Rattle.univmon_merge.proofs.Pairing.{four, place-room}

-- ---- the tests

pub pair_one : (r t : Lent) (many l : ℕ) → Paired r t many 0 → l < many → Paired r t 1 l
pair_one r t many l p h = record { standing = p.standing; other = p.other; same = p.same; inside = omega (arith, p.inside) }

pub read_one : (r t : Lent) (many l : ℕ) → PairsRead r t many → l < many → PairRead r t l
read_one r t many l p h = record { paired = pair_one r t many l p.paired h; read = all-at (reads_with (view t)) many 0 (view r) l (omega arith) (omega arith) p.read }

-- ---- the merge

abbrev pub Merging : Lent → Lent → ℕ → Lent → ℕ → Type 0
Merging r₀ t many r l = InTurn (merges_with r₀.head.shape (view t)) many 0 r₀ r l

-- what the list is to tell of the layers, twice the heap size in places for each
abbrev pub MergeTold : Lent → Lent → ℕ → List ℕ → List ℕ → ℕ → Type 0
MergeTold r₀ t many list₀ list l = ToldSoFar (2 * r₀.head.shape.heap_size) (answers_with (view r₀) (view t)) many 0 list₀ list l

pub merging_room : (r₀ r : Lent) (n : ℕ) → r.head.shape ≡ r₀.head.shape → {m : ℕ} → n ≡ m → 4 * r₀.head.shape.heap_size * r₀.head.shape.layers ≤ m
    → 4 * r.head.shape.heap_size * r.head.shape.layers ≤ n
merging_room r₀ r n e q h = rw (e, q) h

pub merging_start : (r t : Lent) (many : ℕ) → MergesReady r t many → Merging r t many r 0
merging_start r t many p = in_turn-start (merges_with r.head.shape (view t)) many 0 r p.ready.paired.standing

module _ (r₀ t : Lent) (many : ℕ) (p : MergesReady r₀ t many) (r : Lent) (l : ℕ) (v : Merging r₀ t many r l) (h : l < many) where
  more : l < many + 0
  more = omega arith

  inside : l < r.head.shape.layers
  inside = in_turn-inside v more p.ready.paired.inside

  same : t.head.shape ≡ r.head.shape
  same = p.ready.paired.same ∙ sym v.shape

  -- the next layer may be merged
  pub merging_ready : MergeReady r t l
  merging_ready =
      record {
        ready = record {
          paired = record { standing = v.standing; other = p.ready.paired.other; same = same; inside = omega (arith, inside) };
          read = in_turn-test v more p.ready.paired.inside (omega arith) (reads_with (view t)) p.ready.read;
        };
        fit = in_turn-test v more p.ready.paired.inside (omega arith) (fits_with (view t)) p.fit;
      }

  -- the layer was merged
  pub merging_on : (u : Lent) → view u ≡ put_layer (view r) l (merges_with r.head.shape (view t) l (layer_at (view r) l)) → Standing u → Merging r₀ t many u (l + 1)
  unfolding view
  merging_on u e z =
      in_turn_on v more p.ready.paired.inside (merges_with r.head.shape (view t) l (layer_at (view r) l)) (ap (λ (sh : Shape). merges_with sh (view t) l (layer_at (view r) l)) v.shape)
      (merge-lengths (dims_at r.head.shape l) (layer_at (view r) l) (layer_at (view t) l) (at-fits (view r) (long-view r v.standing) l inside) other_fits) u e z
    where
      other_fits : Fits (dims_at r.head.shape l) (layer_at (view t) l)
      other_fits =
          subst (λ (sh : Shape). Fits (dims_at sh l) (layer_at (view t) l)) same
          (at-fits (view t) (long-view t p.ready.paired.other) l (subst (λ (sh : Shape). l < sh.layers) (sym same) inside))

  -- and its places told
  pub merging_told : (list₀ list : List ℕ) → MergeTold r₀ t many list₀ list l → 4 * r₀.head.shape.heap_size * r₀.head.shape.layers ≤ length list₀
      → (list' : List ℕ) → list' ≡ put_places (2 * r.head.shape.heap_size) list l (answers_with (view r) (view t) l) → MergeTold r₀ t many list₀ list' (l + 1)
  unfolding view
  merging_told list₀ list w room list' e =
      told_on (2 * r₀.head.shape.heap_size) (answers_with (view r₀) (view t)) many 0 list₀ list l w (omega (arith, w.long, here)) (answers_with (view r) (view t) l)
      (ap₂ (λ (sh : Shape) (y : Layer). merge_answer (dims_at sh l) y (layer_at (view t) l)) v.shape (in_turn-next v more p.ready.paired.inside))
      list' (e ∙ ap (λ (sh : Shape). put_places (2 * sh.heap_size) list l (answers_with (view r) (view t) l)) v.shape)
    where
      here : 2 * (2 * r₀.head.shape.heap_size) * l + 2 * (2 * r₀.head.shape.heap_size) ≤ length list₀
      here =
          rw (four r₀.head.shape.heap_size)
          (place-room r₀.head.shape.heap_size l r₀.head.shape.layers (length list₀) (omega (arith, p.ready.paired.inside)) room)

pub merging_end : (r₀ t : Lent) (many : ℕ) (r : Lent) (l : ℕ) → Merging r₀ t many r l → many ≤ l → view r ≡ over_layers (merges_with r₀.head.shape (view t)) many 0 (view r₀)
merging_end r₀ t many r l v h = in_turn_end v (omega arith)
