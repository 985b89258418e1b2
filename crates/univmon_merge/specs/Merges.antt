-- A second state merged into a first.
use Rattle.std.specs.Prelude.{ℕ, ◌*◌, Bool, not, List, [], ◌∷◌, ◌++◌}
use Rattle.header.specs.declared.Header.{Header}
use Rattle.header.specs.Shape.{same_shape}
use Rattle.header.specs.Totals.{totals_tests}
use Rattle.header.specs.Header.{clash, begun}
use Rattle.layer.specs.Merge.{merge_layer, merge_answer, merge_reads, merge_fits}
use Rattle.layout.specs.State.{State, shape_of, dims_at, layer_at, over_layers, all_layers, with_head}
use Rattle.layout.specs.Slices.{Lent, view, flat}
use Rattle.layout.specs.Outcomes.{Outcome, judge, lent_tests}
use Rattle.layout.specs.Answers.{layer_places, list_call}

unfoldable pub merged : State → State → State
merged s t =
    over_layers (λ l y. merge_layer (dims_at (shape_of s) l) y (layer_at t l)) (shape_of s).layers 0 (with_head s (begun s.head t.head.totals t.head.mode))

-- "A merge's list has twice the heap size in places for each layer, layers in turn, keys in first entry order."
unfoldable pub merge_answers : State → State → List ℕ
merge_answers s t = layer_places (2 * (shape_of s).heap_size) (λ l. merge_answer (dims_at (shape_of s) l) (layer_at s l) (layer_at t l)) (shape_of s).layers 0

-- of two headers: 10, 6 "mode mixed in .. merge", then the totals
abbrev pub heads_tests : Header → Header → List (Bool × ℕ)
heads_tests a b = (not (same_shape a.shape b.shape), 10) ∷ (clash a.mode b.mode, 6) ∷ totals_tests a.totals b.totals

-- of the layers of two states: 9 for what is read, 11
abbrev pub pair_tests : ℕ → State → State → List (Bool × ℕ)
pair_tests layers s t =
    (not (all_layers (λ l y. merge_reads y (layer_at t l)) layers 0 s), 9) ∷ (not (all_layers (λ l y. merge_fits y (layer_at t l)) layers 0 s), 11) ∷ []

-- "Other calls: 9 for lengths and headers, 12, 10, 5, 8, 6, 7, 9 for what is read, 11.": here 9; 10, 6, 7, and 14 "directly after 7"; 9, 11
unfoldable pub merge_tests : Lent → Lent → List (Bool × ℕ)
merge_tests r t = lent_tests r ++ (lent_tests t ++ (heads_tests r.head t.head ++ pair_tests r.head.shape.layers (view r) (view t)))

-- the call: what a merge answers, and what it leaves of the header and the slices that it is lent
unfoldable pub merge_call : Lent → Lent → Outcome
merge_call r t = judge (merge_tests r t) (flat (merged (view r) (view t)))

-- with a list of n words: the places of all layers, of two words each
unfoldable pub merge_list_call : Lent → Lent → ℕ → Outcome
merge_list_call r t n = list_call (4 * r.head.shape.heap_size * r.head.shape.layers) n (merge_call r t)
