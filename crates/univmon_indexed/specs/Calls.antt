-- The public calls: what each answers, and what it leaves of the header and the slices that it is lent. What it leaves of the index is `updated_index`.
use Rattle.std.specs.Prelude.{ℕ, ◌*◌, List, ◌++◌, ℤ}
use Rattle.layout.specs.Slices.{Lent, view, flat}
use Rattle.layout.specs.Outcomes.{Outcome, judge}
use Rattle.layout.specs.Answers.{list_call}
use Rattle.univmon.specs.declared.Kind.{Kind}
use Rattle.univmon.specs.Calls.{place_tests}
use Rattle.univmon_indexed.specs.Updates.{update_tests_in, updated_in}

-- an update with the index xs and a list of n words
unfoldable pub indexed_update_call : Kind → Lent → List ℕ → List ℕ → ℤ → ℕ → Outcome
indexed_update_call k r xs words w n = list_call (2 * r.head.shape.layers) n (judge (update_tests_in k r xs words w) (flat (updated_in k (view r) xs words w)))

-- where lengths and flags are lent too
unfoldable pub lent_indexed_update_call : Kind → Lent → List ℕ → List ℕ → ℤ → ℕ → Outcome
lent_indexed_update_call k r xs words w n =
    list_call (2 * r.head.shape.layers) n (judge (place_tests r.head ++ update_tests_in k r xs words w) (flat (updated_in k (view r) xs words w)))
