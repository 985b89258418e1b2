-- A delta on one counter of a layer.
use Rattle.std.specs.Prelude.{ℕ, ◌+◌, ◌*◌, Bool, ◌&&◌, ℤ}
use Rattle.countsketch_l2_norm.specs.Sketch.{Sketch, add_cell, cell_read, cell_fits}
use Rattle.countsketch_l2_norm.specs.Estimate.{cells_in_range}
use Rattle.heap_moves.specs.declared.Item.{Item}
use Rattle.heap.specs.declared.Answer.{Answer}
use Rattle.heap.specs.Offer.{Offered, kept}
use Rattle.layer.specs.declared.Dims.{Dims}
use Rattle.layer.specs.Layer.{Layer, hash_by, offer_to, counts_read}

-- the row and column of the counter that a delta names, what it adds, the item that is counted, and whether every insert was promoted
pub record Delta : Type 0 where
  pub row : ℕ
  pub col : ℕ
  pub count : ℤ
  pub item : Item
  pub every : Bool

abbrev pub place_by : Dims → Delta → ℕ
place_by d u = u.row * d.cols + u.col

-- the counter takes the count
abbrev pub delta_sketch : Dims → Delta → Sketch → Sketch
delta_sketch d u s = add_cell (place_by d u) u.row u.count s

-- then the key is offered with its estimate
abbrev pub delta_offer : Dims → Delta → Layer → Offered
delta_offer d u l = offer_to d u.item (delta_sketch d u l.sketch).cells l.table

-- the flag falls where a key was lost or not every insert was promoted
unfoldable pub delta_layer : Dims → Delta → Layer → Layer
delta_layer d u l =
    let o : Offered = delta_offer d u l in
    record { sketch = delta_sketch d u l.sketch; table = o.table; flag = l.flag && (kept o && u.every) }

-- which of the four things the offer did
unfoldable pub delta_answer : Dims → Delta → Layer → Answer
delta_answer d u l = (delta_offer d u l).answer

-- what it reads is in range: its cell and norm, the cells of the key's estimate, and the candidates
unfoldable pub delta_reads : Dims → Delta → Layer → Bool
delta_reads d u l =
    cell_read d.cols (place_by d u) u.row l.sketch && cells_in_range d.cols (hash_by u.item) l.sketch.cells d.rows 0 && counts_read l.table

-- its counter does not leave the range
unfoldable pub delta_fits : Dims → Delta → Layer → Bool
delta_fits d u l = cell_fits (place_by d u) u.count l.sketch.cells
