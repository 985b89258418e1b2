-- What the functions of a delta need, by name, and the number that a delta is refused with.
use Rattle.std.specs.Prelude.{ℕ, ◌<◌, ◌≡◌, true, List, length, ℤ}
use Rattle.layer.specs.Delta.{delta_reads, delta_fits}
use Rattle.layer.specs.inner.Needs.{delta}
use Rattle.layout.specs.State.{dims_at, layer_at}
use Rattle.layout.specs.Slices.{Lent, view}
use Rattle.layout.specs.Records.{record_length, item_at}
use Rattle.layout.specs.inner.Needs.{Standing}

-- a delta names a counter of layer l, and its record has the length that the shape asks for
pub record Placed (r : Lent) (words : List ℕ) (l row col : ℕ) : Type 0 where
  pub standing : Standing r
  pub recorded : length words ≡ record_length r.head.shape.layers
  pub inside : l < r.head.shape.layers
  pub below : row < (dims_at r.head.shape l).rows
  pub within : col < (dims_at r.head.shape l).cols

-- what the delta on one layer needs
pub record Arrives (r : Lent) (words : List ℕ) (l row col : ℕ) (n : ℤ) : Type 0 where
  pub placed : Placed r words l row col
  pub read : delta_reads (dims_at r.head.shape l) (delta row col n (item_at words l) true) (layer_at (view r) l) ≡ true
  pub fit : delta_fits (dims_at r.head.shape l) (delta row col n (item_at words l) true) (layer_at (view r) l) ≡ true
