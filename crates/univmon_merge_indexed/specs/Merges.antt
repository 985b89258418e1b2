-- A second state merged into a first that has an index: "A merge reads candidates as before and no old index: it empties its own, then offers the keys in turn." What
-- is left of header, slices and list is what a merge without an index leaves.
use Rattle.std.specs.Prelude.{ℕ, ◌*◌, Bool, List, ◌++◌}
use Rattle.layer_indexed.specs.Merging.{merge_index_in}
use Rattle.layout.specs.State.{State, shape_of, dims_at, layer_at}
use Rattle.layout.specs.Slices.{Lent, view, flat}
use Rattle.layout.specs.Outcomes.{Outcome, judge, lent_tests}
use Rattle.layout.specs.Answers.{list_call}
use Rattle.layout_index.specs.Tables.{over_tables, indexed_tests}
use Rattle.univmon_merge.specs.Merges.{heads_tests, pair_tests, merged}

-- every layer's table is made anew
unfoldable pub merged_index : State → State → List ℕ → List ℕ
merged_index s t xs = over_tables (shape_of s) (λ l. merge_index_in (dims_at (shape_of s) l) (layer_at s l) (layer_at t l)) (shape_of s).layers 0 xs

-- 9 for header and lengths, the index's too, and the second's; 10, 6, 7, 14; 9, 11
unfoldable pub merge_tests_in : Lent → List ℕ → Lent → List (Bool × ℕ)
merge_tests_in r xs t = indexed_tests r xs ++ (lent_tests t ++ (heads_tests r.head t.head ++ pair_tests r.head.shape.layers (view r) (view t)))

-- the call with a list of n words
unfoldable pub indexed_merge_call : Lent → List ℕ → Lent → ℕ → Outcome
indexed_merge_call r xs t n =
    list_call (4 * r.head.shape.heap_size * r.head.shape.layers) n (judge (merge_tests_in r xs t) (flat (merged (view r) (view t))))
