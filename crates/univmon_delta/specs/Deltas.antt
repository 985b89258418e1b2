-- A delta: "A delta's count has 32 bits, signed; it is accepted in terminal mode too, and an unset mode becomes standard."
use Rattle.std.specs.Prelude.{ℕ, ◌*◌, Bool, true, false, not, List, [], ◌∷◌, ◌++◌, ℤ, leb}
use Rattle.header.specs.Header.{with_mode, settled}
use Rattle.header.specs.declared.Shape.{Shape}
use Rattle.layer.specs.declared.Dims.{Dims}
use Rattle.layer.specs.Layer.{Layer}
use Rattle.layer.specs.Delta.{Delta, delta_layer, delta_answer, delta_reads, delta_fits}
use Rattle.layout.specs.State.{State, shape_of, rows_at, cols_at, dims_at, layer_at, put_layer, with_head}
use Rattle.layout.specs.Records.{item_at}
use Rattle.layout.specs.Slices.{Lent, view, flat}
use Rattle.layout.specs.Outcomes.{Outcome, judge, record_tests}
use Rattle.layout.specs.Answers.{touched_places, list_call}
use Rattle.univmon_delta.specs.declared.Fidelity.{Fidelity}
use Rattle.univmon_delta.specs.declared.Fidelity.TheVariants as fidelity

-- the arguments of a delta: "layer, row or column", count, and whether every insert was promoted
pub record Arrival : Type 0 where
  pub layer : ℕ
  pub row : ℕ
  pub col : ℕ
  pub count : ℤ
  pub fidelity : Fidelity

abbrev pub arrival : ℕ → ℕ → ℕ → ℤ → Fidelity → Arrival
arrival l row col n f = record { layer = l; row = row; col = col; count = n; fidelity = f }

abbrev pub every_insert : Fidelity → Bool
every_insert fidelity.EveryInsert = true
every_insert fidelity.PromotedOnly = false

-- the delta as its layer sees it
abbrev pub delta_by : Arrival → List ℕ → Delta
delta_by a words = record { row = a.row; col = a.col; count = a.count; item = item_at words a.layer; every = every_insert a.fidelity }

unfoldable pub arrived : State → List ℕ → Arrival → State
arrived s words a =
    put_layer (with_head s (with_mode s.head (settled s.head.mode))) a.layer (delta_layer (dims_at (shape_of s) a.layer) (delta_by a words) (layer_at s a.layer))

-- the list of a delta: what its layer did, as it stood before the call
unfoldable pub delta_answers : State → List ℕ → Arrival → List ℕ
delta_answers s words a = touched_places (λ l. delta_answer (dims_at (shape_of s) l) (delta_by a words) (layer_at s l)) 1 a.layer (shape_of s).layers

-- 8 "layer, row or column outside the shape"
abbrev pub counter_tests : Shape → Arrival → List (Bool × ℕ)
counter_tests sh a = (leb sh.layers a.layer, 8) ∷ (leb (rows_at sh a.layer) a.row, 8) ∷ (leb (cols_at sh a.layer) a.col, 8) ∷ []

-- what is read of its layer, and its counter: 9, 11
abbrev pub delta_tests_at : Dims → Delta → Layer → List (Bool × ℕ)
delta_tests_at d u y = (not (delta_reads d u y), 9) ∷ (not (delta_fits d u y), 11) ∷ []

-- "Other calls: 9 for lengths and headers, 12, 10, 5, 8, 6, 7, 9 for what is read, 11.": here 9, 12; 8; 9, 11
unfoldable pub delta_tests : Lent → List ℕ → Arrival → List (Bool × ℕ)
delta_tests r words a =
    record_tests r words
    ++ (counter_tests r.head.shape a ++ delta_tests_at (dims_at r.head.shape a.layer) (delta_by a words) (layer_at (view r) a.layer))

unfoldable pub delta_call : Lent → List ℕ → Arrival → Outcome
delta_call r words a = judge (delta_tests r words a) (flat (arrived (view r) words a))

-- with a list of n words: "one place a layer", of two words
unfoldable pub delta_list_call : Lent → List ℕ → Arrival → ℕ → Outcome
delta_list_call r words a n = list_call (2 * r.head.shape.layers) n (delta_call r words a)
