-- The lookup of a key in one layer: "Each lookup reports its probes, equal to the places from home to the key or to the first empty place, both ends counted."
use Rattle.std.specs.Prelude.{ℕ, ◌-◌, Bool, true, false, cond, List, [], ◌∷◌, ◌++◌, eqb, leb, Option, Some, None, Result, Ok, Err}
use Rattle.refusal.specs.declared.Refusal.{Refusal}
use Rattle.refusal.specs.Refusals.{number_of}
use Rattle.words.specs.Tests.{number}
use Rattle.heap.specs.Offer.{Table}
use Rattle.heap_index.specs.declared.Lookup.{Lookup}
use Rattle.heap_index.specs.declared.Lookup.TheVariants.{Met, Vacant}
use Rattle.heap_index.specs.Index.{word, look}
use Rattle.layout.specs.State.{layer_at}
use Rattle.layout.specs.Slices.{Lent, view}
use Rattle.layout_index.specs.Tables.{table_at, indexed_tests}
use Rattle.indexed_state.specs.declared.LookedUp as answers

-- what a lookup says, as four values: the number of a refusal or 0, whether the key was found, its entry, and
-- the places that were probed
pub record LookedUp : Type 0 where
  pub refusal : ℕ
  pub found : Bool
  pub entry : ℕ
  pub probes : ℕ

-- "found or not, the entry, the probes .. on a refusal all 0"
abbrev pub looked_up : ℕ → Bool → ℕ → ℕ → LookedUp
looked_up n found entry probes = record { refusal = n; found = found; entry = entry; probes = probes }

-- the four values of what a call answers: of a lookup, by the entry that it found, and of a refusal
abbrev pub looked_at : Option ℕ → ℕ → LookedUp
looked_at (Some i) d = looked_up 0 true i d
looked_at None d = looked_up 0 false 0 d

abbrev pub looked : Result answers.LookedUp Refusal → LookedUp
looked (Ok a) = looked_at a.entry a.probes
looked (Err e) = looked_up (number_of e) false 0 0

-- what a walk over the table says: the entry's number from 0, and the probes; 9 for what it visits
abbrev pub looked_by : List ℕ → Option Lookup → LookedUp
looked_by xs (Some (Met p d)) = looked_up 0 true (word xs p - 1) d
looked_by xs (Some (Vacant p d)) = looked_up 0 false 0 d
looked_by xs None = looked_up 9 false 0 0

-- in the table xs of a layer's candidates
abbrev pub look_in : List ℕ → Table → ℕ → LookedUp
look_in xs t k = looked_by xs (look xs t.len t.cands k)

-- 9 for header and lengths, 8 for a layer outside
abbrev pub lookup_tests : Lent → List ℕ → ℕ → List (Bool × ℕ)
lookup_tests r xs l = indexed_tests r xs ++ ((leb r.head.shape.layers l, 8) ∷ [])

unfoldable pub lookup_call : Lent → List ℕ → ℕ → ℕ → LookedUp
lookup_call r xs l k =
    cond (eqb (number (lookup_tests r xs l)) 0) (look_in (table_at r.head.shape xs l) (layer_at (view r) l).table k) (looked_up (number (lookup_tests r xs l)) false 0 0)
