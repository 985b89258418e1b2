-- The index that a merge leaves of a layer: "A merge reads candidates as before and no old index: it empties its own, then offers the keys in turn."
use Rattle.std.specs.Prelude.{ℕ, List, [], ◌∷◌, replicate, ℤ}
use Rattle.countsketch_l2_norm.specs.Merge.{merge_sketch}
use Rattle.heap_moves.specs.declared.Item.{Item}
use Rattle.heap.specs.Offer.{Table}
use Rattle.heap_index.specs.Index.{index_length}
use Rattle.layer.specs.declared.Dims.{Dims}
use Rattle.layer.specs.Layer.{Layer, no_table}
use Rattle.layer.specs.Merge.{both_items}
use Rattle.layer_indexed.specs.Adding.{offer_to_in, table_after}

-- each key offered in turn, with its count, to a table with an index
unfoldable pub offer_all_in : Dims → List ℤ → List Item → List ℕ → Table → List ℕ
offer_all_in d cells [] xs t = xs
offer_all_in d cells (w ∷ ws) xs t =
    offer_all_in d cells ws (offer_to_in d w cells xs t).after.index (table_after t.len (offer_to_in d w cells xs t))

-- what a merge leaves of the first's layer and of the list is what it leaves without an index; this is the index
unfoldable pub merge_index_in : Dims → Layer → Layer → List ℕ
merge_index_in d a b =
    offer_all_in d (merge_sketch d.rows d.cols a.sketch b.sketch).cells (both_items a.table b.table) (replicate (index_length d.size) 0) (no_table d.size)
