-- What the moves store and need, by name.
use Rattle.std.specs.Prelude.{◌≡◌, ℕ, ◌*◌, ◌<◌, ◌+◌, set, List}
use Rattle.heap_moves.specs.declared.Item.{Item}

-- an entry stored
abbrev pub store4 : List ℕ → ℕ → Item → List ℕ
store4 es i w = set (set (set (set es (4 * i) w.key) (4 * i + 1) w.bottom) (4 * i + 2) w.high) (4 * i + 3) w.low

-- places i and j of nc counts and their nw words
pub record Two (nw nc i j : ℕ) : Type 0 where
  pub words : nw ≡ 4 * nc
  pub left : i < nc
  pub right : j < nc
