-- One layer in its slices, and what the functions on it need, by name.
use Rattle.std.specs.Prelude.{ℕ, ◌*◌, ◌≤◌, ◌<◌, ◌≡◌, true, false, Bool, List, length, replicate, ℤ, pos}
use Rattle.words.specs.Num.{top}
use Rattle.words.specs.Lending.{SliceBoth}
use Rattle.matrix_storage.specs.inner.Shaped.{Shaped}
use Rattle.countsketch_l2_norm.specs.inner.Needs.{sketch_of}
use Rattle.heap_moves.specs.declared.Item.{Item}
use Rattle.heap_moves.specs.Cands.{most_cands}
use Rattle.heap.specs.inner.Slices.{table_of}
use Rattle.layer.specs.declared.Dims.{Dims}
use Rattle.layer.specs.Layer.{Layer, layer_update, add_reads, add_fits, no_table}
use Rattle.layer.specs.Delta.{delta_reads, delta_fits, Delta}

-- the layer that stands in four slices
abbrev pub layer_of : Dims → List ℤ → List ℕ → List ℕ → List ℤ → ℕ → Bool → Layer
layer_of d xs ws es ns len flag = record { sketch = sketch_of xs ws d.rows; table = table_of es ns len; flag = flag }

-- in a contract: of slices that a function is lent to be changed, at its entry and at its exit
abbrev pub layer_in : Dims → SliceBoth ℤ → SliceBoth ℕ → SliceBoth ℕ → SliceBoth ℤ → ℕ → Bool → Layer
layer_in d xs ws es ns len flag = layer_of d xs.entry.now ws.entry.now es.entry.now ns.entry.now len flag

abbrev pub layer_out : Dims → SliceBoth ℤ → SliceBoth ℕ → SliceBoth ℕ → SliceBoth ℤ → ℕ → Bool → Layer
layer_out d xs ws es ns len flag = layer_of d xs.exit.now ws.exit.now es.exit.now ns.exit.now len flag

-- they are as they were lent
abbrev pub Untouched : SliceBoth ℤ → SliceBoth ℕ → SliceBoth ℕ → SliceBoth ℤ → Type 0
Untouched xs ws es ns = (xs.exit.now ≡ xs.entry.now) × ((ws.exit.now ≡ ws.entry.now) × ((es.exit.now ≡ es.entry.now) × (ns.exit.now ≡ ns.entry.now)))

-- a layer with nothing counted
unfoldable pub no_layer : Dims → Layer
no_layer d =
    record {
      sketch = record { cells = replicate (d.rows * d.cols) (pos 0); norms = replicate d.rows 0 };
      table = no_table d.size;
      flag = true;
    }

abbrev pub delta : ℕ → ℕ → ℤ → Item → Bool → Delta
delta row col n item every = record { row = row; col = col; count = n; item = item; every = every }

-- slices of nx counters, nw norm words and nc counts are a layer's, with len candidates
pub record Housed (d : Dims) (nx nw nc len : ℕ) : Type 0 where
  pub shaped : Shaped d.rows d.cols
  pub cells : nx ≡ d.rows * d.cols
  pub norms : nw ≡ 2 * d.rows
  pub seats : nc ≡ d.size
  pub some : 1 ≤ d.size
  pub few : d.size ≤ most_cands
  pub used : len ≤ d.size

-- what an update needs
pub record AddReady (d : Dims) (len : ℕ) (item : Item) (w : ℕ) (xs : List ℤ) (ws es : List ℕ) (ns : List ℤ) : Type 0 where
  pub housed : Housed d (length xs) (length ws) (length ns) len
  pub words : length es ≡ 4 * d.size
  pub light : w ≤ top
  pub read : add_reads d (layer_update item w) (layer_of d xs ws es ns len false) ≡ true
  pub fit : add_fits d (layer_update item w) (layer_of d xs ws es ns len false) ≡ true

-- what a delta needs
pub record DeltaReady (d : Dims) (len row col : ℕ) (n : ℤ) (item : Item) (xs : List ℤ) (ws es : List ℕ) (ns : List ℤ) : Type 0 where
  pub housed : Housed d (length xs) (length ws) (length ns) len
  pub words : length es ≡ 4 * d.size
  pub below : row < d.rows
  pub inside : col < d.cols
  pub read : delta_reads d (delta row col n item true) (layer_of d xs ws es ns len false) ≡ true
  pub fit : delta_fits d (delta row col n item true) (layer_of d xs ws es ns len false) ≡ true

-- a layer with the lengths of its dimensions
pub record Fits (d : Dims) (y : Layer) : Type 0 where
  pub cells : length y.sketch.cells ≡ d.rows * d.cols
  pub norms : length y.sketch.norms ≡ d.rows
  pub cands : length y.table.cands ≡ d.size
