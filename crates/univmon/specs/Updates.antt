-- The two updates.
use Rattle.std.specs.Prelude.{ℕ, ◌+◌, Bool, not, List, [], ◌∷◌, ◌++◌, ℤ, nat_abs}
use Rattle.header.specs.declared.Mode.{Mode}
use Rattle.header.specs.declared.Mode.TheVariants as mode
use Rattle.header.specs.Shape.{bottom_of}
use Rattle.header.specs.Totals.{update_totals}
use Rattle.header.specs.Header.{scalars_of, begun, begin_tests}
use Rattle.header.specs.declared.Shape.{Shape}
use Rattle.heap.specs.declared.Answer.{Answer}
use Rattle.layer.specs.Layer.{Layer, LayerUpdate, layer_update, add_layer, add_answer, add_reads, add_fits}
use Rattle.layout.specs.State.{State, shape_of, dims_at, layer_at, over_layers, all_layers, with_head}
use Rattle.layout.specs.Slices.{Lent, view}
use Rattle.layout.specs.Records.{bottom_word, item_at}
use Rattle.layout.specs.Outcomes.{record_tests}
use Rattle.layout.specs.Answers.{touched_places}
use Rattle.univmon.specs.declared.Kind.{Kind}
use Rattle.univmon.specs.declared.Kind.TheVariants as kind

-- the update as layer l sees it
abbrev pub layer_update_at : List ℕ → ℕ → ℕ → LayerUpdate
layer_update_at words w l = layer_update (item_at words l) w

-- at layer l of a shape: whether what it reads is in range, whether it fits, what it leaves, and which of the four things it did
abbrev pub reads_at : Shape → List ℕ → ℕ → ℕ → Layer → Bool
reads_at sh words w l y = add_reads (dims_at sh l) (layer_update_at words w l) y

abbrev pub fits_at : Shape → List ℕ → ℕ → ℕ → Layer → Bool
fits_at sh words w l y = add_fits (dims_at sh l) (layer_update_at words w l) y

abbrev pub adds_at : Shape → List ℕ → ℕ → ℕ → Layer → Layer
adds_at sh words w l y = add_layer (dims_at sh l) (layer_update_at words w l) y

abbrev pub answer_at : State → List ℕ → ℕ → ℕ → Answer
answer_at s words w l = add_answer (dims_at (shape_of s) l) (layer_update_at words w l) (layer_at s l)

abbrev pub mode_of : Kind → Mode
mode_of kind.Standard = mode.Standard
mode_of kind.Terminal = mode.Terminal

-- "A standard update sends a key to layers 0 to bottom, a terminal one to bottom only.": the first layer, and how many
abbrev pub first_sent : Kind → ℕ → ℕ
first_sent kind.Standard b = 0
first_sent kind.Terminal b = b

abbrev pub many_sent : Kind → ℕ → ℕ
many_sent kind.Standard b = b + 1
many_sent kind.Terminal b = 1

-- the bottom layer of a record in a state
abbrev pub bottom_by : State → List ℕ → ℕ
bottom_by s words = bottom_of (bottom_word words) (shape_of s).layers

-- the layers that an update is sent to are replaced
unfoldable pub updated : Kind → State → List ℕ → ℤ → State
updated k s words w =
    over_layers (adds_at (shape_of s) words (nat_abs w)) (many_sent k (bottom_by s words)) (first_sent k (bottom_by s words))
    (with_head s (begun s.head (update_totals (nat_abs w)) (mode_of k)))

-- the list of an update: what each layer that it is sent to did, as that layer stood before the call
unfoldable pub update_answers : Kind → State → List ℕ → ℤ → List ℕ
update_answers k s words w = touched_places (answer_at s words (nat_abs w)) (many_sent k (bottom_by s words)) (first_sent k (bottom_by s words)) (shape_of s).layers

-- of many layers from the first on: 9 for what is read, 11
abbrev pub layers_tests : Shape → List ℕ → ℕ → ℕ → ℕ → State → List (Bool × ℕ)
layers_tests sh words w many first s = (not (all_layers (reads_at sh words w) many first s), 9) ∷ (not (all_layers (fits_at sh words w) many first s), 11) ∷ []

-- of those that an update is sent to
abbrev pub sent_tests : Kind → State → List ℕ → ℤ → List (Bool × ℕ)
sent_tests k s words w = layers_tests (shape_of s) words (nat_abs w) (many_sent k (bottom_by s words)) (first_sent k (bottom_by s words)) s

-- "Other calls: 9 for lengths and headers, 12, 10, 5, 8, 6, 7, 9 for what is read, 11.": here 9, 12; 5, 6, 7, and 14 "directly after 7"; 9, 11
unfoldable pub update_tests : Kind → Lent → List ℕ → ℤ → List (Bool × ℕ)
update_tests k r words w = record_tests r words ++ (begin_tests (scalars_of r.head) w (mode_of k) ++ sent_tests k (view r) words w)
