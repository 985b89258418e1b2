-- What the functions of a delta with an index need, by name.
use Rattle.std.specs.Prelude.{ℕ, ◌≡◌, true, List, length, ℤ}
use Rattle.layer.specs.inner.Needs.{delta}
use Rattle.layer_indexed.specs.inner.Needs.{delta_grade}
use Rattle.layout.specs.State.{dims_at, layer_at}
use Rattle.layout.specs.Slices.{Lent, view}
use Rattle.layout.specs.Records.{item_at}
use Rattle.layout_index.specs.Tables.{tables_in, table_at}
use Rattle.univmon_delta.specs.inner.Needs.{Placed}

-- a delta names a counter of layer l, and index and record have their lengths
pub record PlacedIn (r : Lent) (xs words : List ℕ) (l row col : ℕ) : Type 0 where
  pub placed : Placed r words l row col
  pub tables : length xs ≡ tables_in r.head.shape

-- what the delta on one layer needs
pub record ArrivesIn (r : Lent) (xs words : List ℕ) (l row col : ℕ) (n : ℤ) : Type 0 where
  pub placed : PlacedIn r xs words l row col
  pub grade : delta_grade (dims_at r.head.shape l) (delta row col n (item_at words l) true) (table_at r.head.shape xs l) (layer_at (view r) l) ≡ 4
