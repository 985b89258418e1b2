-- The two updates of a state with an index. Where a key goes, what its weight does to counters, totals and mode, and what the list tells is what it is
-- without an index; in each layer the key is sought by that layer's table.
use Rattle.std.specs.Prelude.{ℕ, Bool, not, List, [], ◌∷◌, ◌++◌, length, ℤ, nat_abs}
use Rattle.heap.specs.declared.Answer.{Answer}
use Rattle.header.specs.declared.Shape.{Shape}
use Rattle.header.specs.Totals.{update_totals}
use Rattle.header.specs.Header.{scalars_of, begun, begin_tests}
use Rattle.layer.specs.Layer.{Layer}
use Rattle.layer_indexed.specs.Adding.{add_layer_in, add_index_in, add_answer_in, add_reads_in, add_moves_in}
use Rattle.layout.specs.State.{State, shape_of, dims_at, layer_at, over_layers, all_layers, with_head}
use Rattle.layout.specs.Slices.{Lent, view}
use Rattle.layout.specs.Outcomes.{record_test}
use Rattle.layout.specs.Answers.{touched_places}
use Rattle.layout_index.specs.Tables.{table_at, over_tables, indexed_tests}
use Rattle.univmon.specs.declared.Kind.{Kind}
use Rattle.univmon.specs.Updates.{layer_update_at, fits_at, mode_of, first_sent, many_sent, bottom_by}

-- at layer l of a shape with the index xs: whether what is read first is in range, whether no visit of the moves is refused, and what is left of the layer
abbrev pub reads_in : Shape → List ℕ → ℕ → List ℕ → ℕ → Layer → Bool
reads_in sh words w xs l y = add_reads_in (dims_at sh l) (layer_update_at words w l) (table_at sh xs l) y

abbrev pub moves_in : Shape → List ℕ → ℕ → List ℕ → ℕ → Layer → Bool
moves_in sh words w xs l y = add_moves_in (dims_at sh l) (layer_update_at words w l) (table_at sh xs l) y

abbrev pub adds_in : Shape → List ℕ → ℕ → List ℕ → ℕ → Layer → Layer
adds_in sh words w xs l y = add_layer_in (dims_at sh l) (layer_update_at words w l) (table_at sh xs l) y

-- what is left of its table, and which of the four things the offer did
abbrev pub table_in : State → List ℕ → ℕ → List ℕ → ℕ → List ℕ
table_in s words w xs l = add_index_in (dims_at (shape_of s) l) (layer_update_at words w l) (table_at (shape_of s) xs l) (layer_at s l)

abbrev pub answer_in : State → List ℕ → ℕ → List ℕ → ℕ → Answer
answer_in s words w xs l = add_answer_in (dims_at (shape_of s) l) (layer_update_at words w l) (table_at (shape_of s) xs l) (layer_at s l)

-- the layers that an update is sent to are replaced
unfoldable pub updated_in : Kind → State → List ℕ → List ℕ → ℤ → State
updated_in k s xs words w =
    over_layers (adds_in (shape_of s) words (nat_abs w) xs) (many_sent k (bottom_by s words)) (first_sent k (bottom_by s words))
    (with_head s (begun s.head (update_totals (nat_abs w)) (mode_of k)))

-- and so are their tables
unfoldable pub updated_index : Kind → State → List ℕ → List ℕ → ℤ → List ℕ
updated_index k s xs words w = over_tables (shape_of s) (table_in s words (nat_abs w) xs) (many_sent k (bottom_by s words)) (first_sent k (bottom_by s words)) xs

-- the list of an update
unfoldable pub update_answers_in : Kind → State → List ℕ → List ℕ → ℤ → List ℕ
update_answers_in k s xs words w = touched_places (answer_in s words (nat_abs w) xs) (many_sent k (bottom_by s words)) (first_sent k (bottom_by s words)) (shape_of s).layers

-- of many layers from the first on: 9 for cells, norms and the key's own lookup, 11, then 9 for the visits of the moves
abbrev pub layers_tests_in : Shape → List ℕ → ℕ → List ℕ → ℕ → ℕ → State → List (Bool × ℕ)
layers_tests_in sh words w xs many first s =
    (not (all_layers (reads_in sh words w xs) many first s), 9) ∷ (not (all_layers (fits_at sh words w) many first s), 11) ∷ (not (all_layers (moves_in sh words w xs) many first s), 9) ∷ []

abbrev pub sent_tests_in : Kind → State → List ℕ → List ℕ → ℤ → List (Bool × ℕ)
sent_tests_in k s xs words w = layers_tests_in (shape_of s) words (nat_abs w) xs (many_sent k (bottom_by s words)) (first_sent k (bottom_by s words)) s

-- 9 for header and lengths, the index's too, 12; 5, 6, 7, 14; 9, 11, 9
unfoldable pub update_tests_in : Kind → Lent → List ℕ → List ℕ → ℤ → List (Bool × ℕ)
update_tests_in k r xs words w =
    indexed_tests r xs ++ (record_test r.head.shape (length words) ∷ (begin_tests (scalars_of r.head) w (mode_of k) ++ sent_tests_in k (view r) xs words w))
