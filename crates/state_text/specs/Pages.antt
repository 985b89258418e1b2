-- A layer and a state as what their text says: rows of counters, the candidates in use, the flag.
use Rattle.std.specs.Prelude.{ℕ, zero, suc, ◌-◌, false, List, [], ◌∷◌, ◌++◌, length, get_or, take, replicate}
use Rattle.countsketch_l2_norm.specs.Merge.{row_norms}
use Rattle.heap_moves.specs.Cands.{Cand, no_cand}
use Rattle.heap.specs.Offer.{Table}
use Rattle.header.specs.declared.Shape.{Shape}
use Rattle.header.specs.OneTier.{one_tier}
use Rattle.header.specs.declared.Header.{Header}
use Rattle.header.specs.Header.{with_totals, with_mode, mode_number, mode_by}
use Rattle.layer.specs.declared.Dims.{Dims}
use Rattle.layer.specs.Layer.{Layer}
use Rattle.layout.specs.State.{State, shape_of, layer_at, over_layers, new_state, with_head}
use Rattle.state_check.specs.Check.{seats_ok}
use Rattle.state_forms.specs.Grammar.{rows_of, join_rows, Page, Frame}
use Rattle.state_forms.specs.Whole.{First, Others, doc_text}

-- ---- a layer

-- "unused entries are zero"
abbrev pub table_from : ℕ → List Cand → Table
table_from size cs = record { cands = cs ++ replicate (size - length cs) no_cand; len = length cs }

abbrev pub page_of : Dims → Layer → Page
page_of d y = record { flag = y.flag; rows = rows_of d.cols d.rows y.sketch.cells; keys = take y.table.len y.table.cands }

-- "Norms are worked out on reading.", as a merge works them out
abbrev pub layer_from : Dims → Page → Layer
layer_from d p =
    record {
      sketch = record { cells = join_rows p.rows; norms = row_norms d.cols (join_rows p.rows) d.rows 0 };
      table = table_from d.size p.keys;
      flag = p.flag;
    }

-- the state check's own test of a layer's candidates is the reader's too
abbrev pub frame_of : Dims → Frame
frame_of d = record { size = d.size; rows = d.rows; cols = d.cols; test = λ cs. seats_ok (table_from d.size cs) d.size 0 }

-- ---- a state

-- a text is of a state with one tier ("Text, panel, later calls and later claims keep to one tier", 02, W4): every layer has the shape's rows and columns
abbrev pub first_of : Shape → First
first_of sh = (sh.heap_size, (sh.mouse_rows, (sh.mouse_cols, sh.layers)))

abbrev pub shape_from : First → Shape
shape_from f = one_tier f.0 f.1.0 f.1.1.0 f.1.1.1

abbrev pub dims_of : Shape → Dims
dims_of sh = record { rows = sh.mouse_rows; cols = sh.mouse_cols; size = sh.heap_size }

-- k layers from layer l on
unfoldable pub pages_of : State → ℕ → ℕ → List Page
pages_of s zero l = []
pages_of s (suc k) l = page_of (dims_of (shape_of s)) (layer_at s l) ∷ pages_of s k (suc l)

unfoldable pub others_of : State → Others
others_of s = ((s.head.totals.weight, (s.head.totals.updates, mode_number s.head.mode)), pages_of s (shape_of s).layers 0)

-- the text of a state
unfoldable pub text_of : State → List ℕ
text_of s = doc_text (frame_of (dims_of (shape_of s))) (first_of (shape_of s)) (others_of s)

abbrev pub no_page : Page
no_page = record { flag = false; rows = []; keys = [] }

-- a header with the weight, the number of updates and the mode that were read
abbrev pub head_from : Header → ℕ × (ℕ × ℕ) → Header
head_from h n = with_mode (with_totals h (record { weight = n.0; updates = n.1.0 })) (mode_by n.1.1)

-- and the state of one: a fresh state with that header, each of whose layers is replaced
unfoldable pub state_from : Shape → Others → State
state_from sh d = over_layers (λ l y. layer_from (dims_of sh) (get_or d.1 l no_page)) sh.layers 0 (with_head (new_state sh) (head_from (new_state sh).head d.0))
