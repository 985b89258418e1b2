-- A delta on a state with an index. Which counter it changes, what it does to header and list, and what it is refused for first is what it is without an
-- index; the key is sought by its layer's table.
use Rattle.std.specs.Prelude.{ℕ, ◌*◌, Bool, not, List, [], ◌∷◌, ◌++◌, length}
use Rattle.header.specs.Header.{with_mode, settled}
use Rattle.layer.specs.declared.Dims.{Dims}
use Rattle.layer.specs.Layer.{Layer}
use Rattle.layer.specs.Delta.{Delta, delta_fits}
use Rattle.layer_indexed.specs.Adding.{delta_layer_in, delta_index_in, delta_answer_in, delta_reads_in, delta_moves_in}
use Rattle.layout.specs.State.{State, shape_of, dims_at, layer_at, put_layer, with_head}
use Rattle.layout.specs.Slices.{Lent, view, flat}
use Rattle.layout.specs.Outcomes.{Outcome, judge, record_test}
use Rattle.layout.specs.Answers.{touched_places, list_call}
use Rattle.layout_index.specs.Tables.{table_at, put_table, indexed_tests}
use Rattle.univmon_delta.specs.Deltas.{Arrival, delta_by, counter_tests}

-- the layer that a delta names is replaced
unfoldable pub arrived_in : State → List ℕ → List ℕ → Arrival → State
arrived_in s xs words a =
    put_layer (with_head s (with_mode s.head (settled s.head.mode))) a.layer
    (delta_layer_in (dims_at (shape_of s) a.layer) (delta_by a words) (table_at (shape_of s) xs a.layer) (layer_at s a.layer))

-- and so is its table
unfoldable pub arrived_index : State → List ℕ → List ℕ → Arrival → List ℕ
arrived_index s xs words a =
    put_table (shape_of s) xs a.layer (delta_index_in (dims_at (shape_of s) a.layer) (delta_by a words) (table_at (shape_of s) xs a.layer) (layer_at s a.layer))

-- the list of a delta
unfoldable pub delta_answers_in : State → List ℕ → List ℕ → Arrival → List ℕ
delta_answers_in s xs words a =
    touched_places (λ l. delta_answer_in (dims_at (shape_of s) l) (delta_by a words) (table_at (shape_of s) xs l) (layer_at s l)) 1 a.layer (shape_of s).layers

-- of its layer: 9 for cell, norm, the cells of the estimate and the key's own lookup, 11, then 9 for the visits of the moves
abbrev pub delta_tests_in : Dims → Delta → List ℕ → Layer → List (Bool × ℕ)
delta_tests_in d u xs y = (not (delta_reads_in d u xs y), 9) ∷ (not (delta_fits d u y), 11) ∷ (not (delta_moves_in d u xs y), 9) ∷ []

-- 9 for header and lengths, the index's too, 12; 8; 9, 11, 9
unfoldable pub indexed_delta_tests : Lent → List ℕ → List ℕ → Arrival → List (Bool × ℕ)
indexed_delta_tests r xs words a =
    indexed_tests r xs
    ++ (record_test r.head.shape (length words)
    ∷ (counter_tests r.head.shape a ++ delta_tests_in (dims_at r.head.shape a.layer) (delta_by a words) (table_at r.head.shape xs a.layer) (layer_at (view r) a.layer)))

-- the call with a list of n words
unfoldable pub indexed_delta_call : Lent → List ℕ → List ℕ → Arrival → ℕ → Outcome
indexed_delta_call r xs words a n = list_call (2 * r.head.shape.layers) n (judge (indexed_delta_tests r xs words a) (flat (arrived_in (view r) xs words a)))
