-- One layer whole, for any rows, columns and heap size, and an update of it.
use Rattle.std.specs.Prelude.{ℕ, Bool, ◌&&◌, List, take, replicate, ℤ}
use Rattle.words.specs.Num.{all_in}
use Rattle.matrix_storage.specs.Bits.{hash_of}
use Rattle.countsketch_l2_norm.specs.Sketch.{Sketch, add_rows, rows_read, rows_fit}
use Rattle.countsketch_l2_norm.specs.Estimate.{estimate_of}
use Rattle.heap_moves.specs.declared.Item.{Item}
use Rattle.heap_moves.specs.Cands.{no_cand}
use Rattle.heap_moves.specs.Flat.{cand_of, counts_of}
use Rattle.heap.specs.declared.Answer.{Answer}
use Rattle.heap.specs.Offer.{Table, Offered, offer, kept}
use Rattle.layer.specs.declared.Dims.{Dims}

-- counters and norms, candidates, and whether no key was lost
pub record Layer : Type 0 where
  pub sketch : Sketch
  pub table : Table
  pub flag : Bool

-- one update as a layer sees it: the item that is counted, with this layer's hash, and the weight
pub record LayerUpdate : Type 0 where
  pub item : Item
  pub weight : ℕ

abbrev pub layer_update : Item → ℕ → LayerUpdate
layer_update item w = record { item = item; weight = w }

-- the 128-bit hash of an entry
abbrev pub hash_by : Item → ℕ
hash_by w = hash_of w.high w.low

-- "A count is the estimate cut toward zero.", of an entry's hash
abbrev pub count_of : Dims → Item → List ℤ → ℤ
count_of d w cells = estimate_of d.rows d.cols (hash_by w) cells

-- ---- an update: the counters take it, then the key is offered with its new count; where the offer answers false, the flag falls (scope, section 4)

unfoldable pub add_sketch : Dims → LayerUpdate → Sketch → Sketch
add_sketch d u s = add_rows d.cols (hash_by u.item) u.weight d.rows 0 s

-- the offer of a key with its count from the counters
abbrev pub offer_to : Dims → Item → List ℤ → Table → Offered
offer_to d w cells t = offer d.size t (cand_of w (count_of d w cells))

abbrev pub add_offer : Dims → LayerUpdate → Layer → Offered
add_offer d u l = offer_to d u.item (add_sketch d u l.sketch).cells l.table

unfoldable pub add_layer : Dims → LayerUpdate → Layer → Layer
add_layer d u l =
    let o : Offered = add_offer d u l in
    record { sketch = add_sketch d u l.sketch; table = o.table; flag = l.flag && kept o }

-- which of the four things the offer did
unfoldable pub add_answer : Dims → LayerUpdate → Layer → Answer
add_answer d u l = (add_offer d u l).answer

-- "A candidate is in range if its count lies within ±2^52 .. A read candidate layer is read whole, up to its length."
abbrev pub counts_read : Table → Bool
counts_read t = all_in (take t.len (counts_of t.cands))

-- what an update reads of a layer is in range: in each row the key's cell and the norm, and the candidates
unfoldable pub add_reads : Dims → LayerUpdate → Layer → Bool
add_reads d u l = rows_read d.cols (hash_by u.item) l.sketch d.rows 0 && counts_read l.table

-- no counter leaves the range
unfoldable pub add_fits : Dims → LayerUpdate → Layer → Bool
add_fits d u l = rows_fit d.cols (hash_by u.item) u.weight l.sketch.cells d.rows 0

-- no candidates
abbrev pub no_table : ℕ → Table
no_table size = record { cands = replicate size no_cand; len = 0 }
