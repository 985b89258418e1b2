-- The state check with an index: "The state check says no to an index that doesn't hold exactly its layer's candidates, each once and where its key's lookup ends."
use Rattle.std.specs.Prelude.{ℕ, Bool, ◌&&◌, List, length, eqb}
use Rattle.heap_index.specs.Index.{index_ok}
use Rattle.layer.specs.Layer.{Layer}
use Rattle.layout.specs.State.{State, shape_of, all_layers}
use Rattle.layout.specs.Slices.{Lent, view}
use Rattle.layout_index.specs.Tables.{tables_in, table_at}
use Rattle.state_check.specs.Check.{state_ok}

-- the table of layer l
abbrev pub table_ok : List ℕ → Layer → Bool
table_ok xs y = index_ok xs y.table.len y.table.cands

-- every layer's
abbrev pub tables_ok : State → List ℕ → Bool
tables_ok s xs = all_layers (λ l y. table_ok (table_at (shape_of s) xs l) y) (shape_of s).layers 0 s

unfoldable pub indexed_ok : Lent → List ℕ → Bool
indexed_ok r xs = state_ok r && (eqb (length xs) (tables_in r.head.shape) && tables_ok (view r) xs)
