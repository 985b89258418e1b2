-- One layer with an index: an update and a delta of it. The sketch and the count are those of a layer without one; the key is sought by the index.
use Rattle.std.specs.Prelude.{ℕ, Bool, ◌&&◌, List, ℤ, is_some}
use Rattle.countsketch_l2_norm.specs.Sketch.{rows_read, cell_read}
use Rattle.countsketch_l2_norm.specs.Estimate.{cells_in_range}
use Rattle.heap_moves.specs.declared.Item.{Item}
use Rattle.heap_moves.specs.Flat.{cand_of}
use Rattle.heap.specs.declared.Answer.{Answer}
use Rattle.heap.specs.Offer.{Table, len_by, kept_by}
use Rattle.heap_index.specs.Index.{look}
use Rattle.heap_indexed.specs.Offers.{IndexedOffer, offer_in}
use Rattle.layer.specs.declared.Dims.{Dims}
use Rattle.layer.specs.Layer.{Layer, LayerUpdate, hash_by, count_of, add_sketch}
use Rattle.layer.specs.Delta.{Delta, place_by, delta_sketch}

-- the offer of a key with its count from the counters, to a table with the index xs
abbrev pub offer_to_in : Dims → Item → List ℤ → List ℕ → Table → IndexedOffer
offer_to_in d w cells xs t = offer_in d.size xs t (cand_of w (count_of d w cells))

-- the table that an offer leaves of one with n candidates
abbrev pub table_after : ℕ → IndexedOffer → Table
table_after n o = record { cands = o.after.cands; len = len_by o.answer n }

-- "the key's own lookup"
abbrev pub key_looked : List ℕ → Table → ℕ → Bool
key_looked xs t k = is_some (look xs t.len t.cands k)

-- ---- an update

abbrev pub add_offer_in : Dims → LayerUpdate → List ℕ → Layer → IndexedOffer
add_offer_in d u xs y = offer_to_in d u.item (add_sketch d u y.sketch).cells xs y.table

-- what it leaves of the layer and of its index, and which of the four things the offer did
unfoldable pub add_layer_in : Dims → LayerUpdate → List ℕ → Layer → Layer
add_layer_in d u xs y =
    let o : IndexedOffer = add_offer_in d u xs y in
    record { sketch = add_sketch d u y.sketch; table = table_after y.table.len o; flag = y.flag && kept_by o.answer }

unfoldable pub add_index_in : Dims → LayerUpdate → List ℕ → Layer → List ℕ
add_index_in d u xs y = (add_offer_in d u xs y).after.index

unfoldable pub add_answer_in : Dims → LayerUpdate → List ℕ → Layer → Answer
add_answer_in d u xs y = (add_offer_in d u xs y).answer

-- what it reads first is in range: in each row the key's cell and the norm, and what the key's own lookup visits
unfoldable pub add_reads_in : Dims → LayerUpdate → List ℕ → Layer → Bool
add_reads_in d u xs y = rows_read d.cols (hash_by u.item) y.sketch d.rows 0 && key_looked xs y.table u.item.key

-- no visit of its moves is refused
unfoldable pub add_moves_in : Dims → LayerUpdate → List ℕ → Layer → Bool
add_moves_in d u xs y = (add_offer_in d u xs y).after.fine

-- ---- a delta

abbrev pub delta_offer_in : Dims → Delta → List ℕ → Layer → IndexedOffer
delta_offer_in d u xs y = offer_to_in d u.item (delta_sketch d u y.sketch).cells xs y.table

unfoldable pub delta_layer_in : Dims → Delta → List ℕ → Layer → Layer
delta_layer_in d u xs y =
    let o : IndexedOffer = delta_offer_in d u xs y in
    record { sketch = delta_sketch d u y.sketch; table = table_after y.table.len o; flag = y.flag && (kept_by o.answer && u.every) }

unfoldable pub delta_index_in : Dims → Delta → List ℕ → Layer → List ℕ
delta_index_in d u xs y = (delta_offer_in d u xs y).after.index

unfoldable pub delta_answer_in : Dims → Delta → List ℕ → Layer → Answer
delta_answer_in d u xs y = (delta_offer_in d u xs y).answer

unfoldable pub delta_reads_in : Dims → Delta → List ℕ → Layer → Bool
delta_reads_in d u xs y =
    cell_read d.cols (place_by d u) u.row y.sketch && cells_in_range d.cols (hash_by u.item) y.sketch.cells d.rows 0 && key_looked xs y.table u.item.key

unfoldable pub delta_moves_in : Dims → Delta → List ℕ → Layer → Bool
delta_moves_in d u xs y = (delta_offer_in d u xs y).after.fine
