-- Two states of one shape, and what the inner functions of a merge need, by name.
use Rattle.std.specs.Prelude.{ℕ, ◌+◌, ◌≤◌, ◌≡◌, Bool, true, List}
use Rattle.header.specs.declared.Shape.{Shape}
use Rattle.layer.specs.Layer.{Layer}
use Rattle.heap.specs.declared.Answer.{Answer}
use Rattle.layer.specs.Merge.{merge_layer, merge_answer, merge_reads, merge_fits}
use Rattle.layout.specs.State.{State, shape_of, dims_at, layer_at, all_layers}
use Rattle.layout.specs.Slices.{Lent, view}
use Rattle.layout.specs.inner.Needs.{Standing}

-- the tests and the step of a merge at each layer, by the second state
abbrev pub reads_with : State → ℕ → Layer → Bool
reads_with t l y = merge_reads y (layer_at t l)

abbrev pub fits_with : State → ℕ → Layer → Bool
fits_with t l y = merge_fits y (layer_at t l)

abbrev pub merges_with : Shape → State → ℕ → Layer → Layer
merges_with sh t l y = merge_layer (dims_at sh l) y (layer_at t l)

-- and what it did with each key of two layers
abbrev pub answers_with : State → State → ℕ → List Answer
answers_with s t l = merge_answer (dims_at (shape_of s) l) (layer_at s l) (layer_at t l)

-- two states of one shape, and layers that they have
pub record Paired (r t : Lent) (many first : ℕ) : Type 0 where
  pub standing : Standing r
  pub other : Standing t
  pub same : t.head.shape ≡ r.head.shape
  pub inside : first + many ≤ r.head.shape.layers

-- what is read of one layer of both is in range; and of many from the first on
pub record PairRead (r t : Lent) (l : ℕ) : Type 0 where
  pub paired : Paired r t 1 l
  pub read : reads_with (view t) l (layer_at (view r) l) ≡ true

pub record PairsRead (r t : Lent) (many : ℕ) : Type 0 where
  pub paired : Paired r t many 0
  pub read : all_layers (reads_with (view t)) many 0 (view r) ≡ true

-- and the sums are in range too
pub record MergeReady (r t : Lent) (l : ℕ) : Type 0 where
  pub ready : PairRead r t l
  pub fit : fits_with (view t) l (layer_at (view r) l) ≡ true

pub record MergesReady (r t : Lent) (many : ℕ) : Type 0 where
  pub ready : PairsRead r t many
  pub fit : all_layers (fits_with (view t)) many 0 (view r) ≡ true
