-- What the functions on a layer with an index need, by name.
use Rattle.std.specs.Prelude.{ℕ, ◌+◌, ◌*◌, ◌≤◌, ◌<◌, ◌≡◌, Bool, true, false, cond, not, List, length, ℤ, ◌+ℤ◌}
use Rattle.words.specs.Num.{top, in_range}
use Rattle.matrix_storage.specs.inner.Shaped.{Shaped}
use Rattle.countsketch_l2_norm.specs.Sketch.{cell_at}
use Rattle.countsketch_l2_norm.specs.Estimate.{cells_in_range}
use Rattle.heap_moves.specs.declared.Item.{Item}
use Rattle.heap_index.specs.Index.{index_length}
use Rattle.layer.specs.declared.Dims.{Dims}
use Rattle.layer.specs.Layer.{Layer, LayerUpdate, layer_update, hash_by, add_fits}
use Rattle.layer.specs.Delta.{Delta, delta_fits}
use Rattle.layer.specs.inner.Needs.{Housed, layer_of, delta}
use Rattle.layer_indexed.specs.declared.grades.Grade.{Grade}
use Rattle.layer_indexed.specs.declared.grades.Grade.TheVariants as grade
use Rattle.layer_indexed.specs.Adding.{add_reads_in, add_moves_in, delta_reads_in, delta_moves_in}

-- slices of nx counters, nw norm words, ne entry words, nc counts and ni places are a layer's, with len candidates
pub record Seated (d : Dims) (nx nw ne nc ni len : ℕ) : Type 0 where
  pub housed : Housed d nx nw nc len
  pub words : ne ≡ 4 * d.size
  pub places : ni ≡ index_length d.size

-- a grade as a number
abbrev pub grade_number : Grade → ℕ
grade_number grade.Unread = 1
grade_number grade.Above = 2
grade_number grade.Unmoved = 3
grade_number grade.Fine = 4

-- how far an update may come: 1 what it reads is out of range, 2 a counter leaves the range, 3 a visit of its moves is refused, 4 it may be made
abbrev pub grade_by : Bool → Bool → Bool → ℕ
grade_by reads fits moves = cond (not reads) 1 (cond (not fits) 2 (cond (not moves) 3 4))

abbrev pub read_grade : Dims → LayerUpdate → List ℕ → Layer → ℕ
read_grade d u xs y = cond (not (add_reads_in d u xs y)) 1 2

unfoldable pub add_grade : Dims → LayerUpdate → List ℕ → Layer → ℕ
add_grade d u xs y = grade_by (add_reads_in d u xs y) (add_fits d u y) (add_moves_in d u xs y)

unfoldable pub delta_grade : Dims → Delta → List ℕ → Layer → ℕ
delta_grade d u xs y = grade_by (delta_reads_in d u xs y) (delta_fits d u y) (delta_moves_in d u xs y)

-- what an update of a layer with an index needs
pub record AddReadyIn (d : Dims) (len : ℕ) (item : Item) (w : ℕ) (xs : List ℤ) (ws es : List ℕ) (ns : List ℤ) (is : List ℕ) : Type 0 where
  pub seated : Seated d (length xs) (length ws) (length es) (length ns) (length is) len
  pub light : w ≤ top
  pub grade : add_grade d (layer_update item w) is (layer_of d xs ws es ns len false) ≡ 4

-- a counter that a delta names, and the counters that a key's estimate reads, where the one takes the number
pub record CountableBehind (d : Dims) (row col : ℕ) (n : ℤ) (item : Item) (xs : List ℤ) : Type 0 where
  pub shaped : Shaped d.rows d.cols
  pub cells : length xs ≡ d.rows * d.cols
  pub below : row < d.rows
  pub inside : col < d.cols
  pub read : cells_in_range d.cols (hash_by item) xs d.rows 0 ≡ true
  pub cell_in : in_range (cell_at xs (row * d.cols + col)) ≡ true
  pub fit : in_range (cell_at xs (row * d.cols + col) +ℤ n) ≡ true

-- what a delta needs
pub record DeltaReadyIn (d : Dims) (len row col : ℕ) (n : ℤ) (item : Item) (xs : List ℤ) (ws es : List ℕ) (ns : List ℤ) (is : List ℕ) : Type 0 where
  pub seated : Seated d (length xs) (length ws) (length es) (length ns) (length is) len
  pub below : row < d.rows
  pub inside : col < d.cols
  pub grade : delta_grade d (delta row col n item true) is (layer_of d xs ws es ns len false) ≡ 4
