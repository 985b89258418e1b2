-- Entries of distinct keys that are set aside, with an index over them.
use Rattle.std.specs.Prelude.{ℕ, ◌+◌, ◌*◌, ◌≤◌, ◌≡◌, List, ◌++◌, length, ℤ}
use Rattle.heap_moves.specs.declared.Item.{Item}
use Rattle.heap_moves.specs.Flat.{cands_of}
use Rattle.heap_index.specs.inner.Indexes.{Indexes, Ranged}
use Rattle.layer.specs.Merge.{firsts}
use Rattle.layer.specs.inner.Gather.{item_keys}

-- the places of xs hold the first k entries of es; the counts, which tell nothing, are in range
pub record Apart (xs es : List ℕ) (ns : List ℤ) (k : ℕ) : Type 0 where
  pub words : length es ≡ 4 * length ns
  pub used : k ≤ length ns
  pub holds : Indexes xs k (cands_of es ns) k
  pub ranged : Ranged k (cands_of es ns)

-- room for n entries behind the first k, in nc counts and nx places
pub record Behind (nx nc k n : ℕ) : Type 0 where
  pub counts : k + n ≤ nc
  pub places : k + n ≤ nx

-- entries with the first entries of other keys behind them
abbrev pub with_firsts : List Item → List Item → List Item
with_firsts ws xs = ws ++ firsts (item_keys ws) xs
