-- A state: the header, and the layers in their slices.
use Rattle.std.specs.Prelude.{ℕ, zero, suc, ◌*◌, Bool, true, false, cond, ◌&&◌, List, get_or, replicate, ℤ, pos, ltb}
use Rattle.words.specs.Parts.{part, put_part}
use Rattle.countsketch_l2_norm.specs.Merge.{sum_below}
use Rattle.heap_moves.specs.Cands.{Cand, no_cand}
use Rattle.header.specs.declared.Shape.{Shape}
use Rattle.header.specs.declared.Header.{Header}
use Rattle.header.specs.Header.{fresh_header, with_layer}
use Rattle.layer.specs.declared.Dims.{Dims}
use Rattle.layer.specs.Layer.{Layer}

-- the counters as they are, the norms as numbers, entries and counts as candidates
pub record State : Type 0 where
  pub head : Header
  pub counters : List ℤ
  pub norms : List ℕ
  pub cands : List Cand

abbrev pub shape_of : State → Shape
shape_of s = s.head.shape

-- ---- "Slices run by layer, then row, then column, or by layer, then entry."

-- rows and columns of a layer: "layers below `elephant_layers` have one number of rows and columns, the others another"
unfoldable pub rows_at : Shape → ℕ → ℕ
rows_at sh l = cond (ltb l sh.elephant_layers) sh.elephant_rows sh.mouse_rows

unfoldable pub cols_at : Shape → ℕ → ℕ
cols_at sh l = cond (ltb l sh.elephant_layers) sh.elephant_cols sh.mouse_cols

abbrev pub dims_at : Shape → ℕ → Dims
dims_at sh l = record { rows = rows_at sh l; cols = cols_at sh l; size = sh.heap_size }

-- where the counters, norms and candidates of layer l begin: behind those of the layers before it
unfoldable pub cell_off : Shape → ℕ → ℕ
cell_off sh l = sum_below l (λ m. (dims_at sh m).rows * (dims_at sh m).cols)

unfoldable pub norm_off : Shape → ℕ → ℕ
norm_off sh l = sum_below l (λ m. (dims_at sh m).rows)

unfoldable pub cand_off : Shape → ℕ → ℕ
cand_off sh l = sum_below l (λ m. (dims_at sh m).size)

-- layer l as it stands in the slices, and another put in its place
unfoldable pub layer_at : State → ℕ → Layer
layer_at s l =
    let sh : Shape = shape_of s in
    let d : Dims = dims_at sh l in
    record {
      sketch = record { cells = part (cell_off sh l) (d.rows * d.cols) s.counters; norms = part (norm_off sh l) d.rows s.norms };
      table = record { cands = part (cand_off sh l) d.size s.cands; len = get_or s.head.lens l 0 };
      flag = get_or s.head.flags l false;
    }

unfoldable pub put_layer : State → ℕ → Layer → State
put_layer s l y =
    let sh : Shape = shape_of s in
    let d : Dims = dims_at sh l in
    record {
      head = with_layer s.head l y.table.len y.flag;
      counters = put_part (cell_off sh l) (d.rows * d.cols) s.counters y.sketch.cells;
      norms = put_part (norm_off sh l) d.rows s.norms y.sketch.norms;
      cands = put_part (cand_off sh l) d.size s.cands y.table.cands;
    }

-- k layers from l on, each replaced by f of it; and whether each of them passes a test
unfoldable pub over_layers : (ℕ → Layer → Layer) → ℕ → ℕ → State → State
over_layers f zero l s = s
over_layers f (suc k) l s = over_layers f k (suc l) (put_layer s l (f l (layer_at s l)))

unfoldable pub all_layers : (ℕ → Layer → Bool) → ℕ → ℕ → State → Bool
all_layers p zero l s = true
all_layers p (suc k) l s = p l (layer_at s l) && all_layers p k (suc l) s

-- "An accepted `new` fills every slice with zeros."
unfoldable pub new_state : Shape → State
new_state sh =
    record {
      head = fresh_header sh;
      counters = replicate (cell_off sh sh.layers) (pos 0);
      norms = replicate (norm_off sh sh.layers) 0;
      cands = replicate (cand_off sh sh.layers) no_cand;
    }

abbrev pub with_head : State → Header → State
with_head s h = record { head = h; counters = s.counters; norms = s.norms; cands = s.cands }
