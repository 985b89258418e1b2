-- What a lookup answers, by where the walk over the table ended and by the tests before it. Assumes nothing.
use mathlib.Core.Path.{◌≡◌, refl, sym, ap, ◌∙◌}
use mathlib.Core.Bool.{Bool, false}
use mathlib.Core.List.{List, [], ◌∷◌}
use Prim.Native.Nat.{ℕ, ◌≤◌, ◌<◌}
use native.Mathlib.Omega.{arith}
use borrow.Author.Tests.{eq-eqb, ne_eqb, le-leb, lt-leb, not-false, eqb-true}
use lib.ListN.{length}
use lib.Dec.{leb}
use Rattle.std.proofs.Common.{Option}
use Rattle.words.specs.Tests.{number}
use Rattle.words.proofs.Tests.{off_number, off_first, off_rest, number_off, number_first, number-rest}
use Rattle.heap_moves.specs.Cands.{Cand}
use Rattle.heap_index.specs.declared.Lookup.{Lookup}
use Rattle.heap_index.specs.Index.{look}
use Rattle.layout.specs.State.{layer_at}
use Rattle.layout.specs.Slices.{Lent, view}
use Rattle.layout.specs.Outcomes.{lent_tests}
use Rattle.layout.proofs.Lengths.{stands_of}
use Rattle.layout_index.specs.Tables.{tables_in, table_at, tables_test, indexed_tests}
use Rattle.layout_index.specs.inner.Needs.{StandingIn}
use Rattle.indexed_state.specs.Lookups.{LookedUp, looked_up, looked_by, look_in, lookup_tests, lookup_call}

-- the answer that a walk's end gives
pub walk_looked : (xs : List ℕ) (n : ℕ) (cs : List Cand) (k : ℕ) (l : Option Lookup) → look xs n cs k ≡ l → looked_by xs l ≡ look_in xs (record { cands = cs; len = n }) k
walk_looked xs n cs k l e = ap (looked_by xs) (sym e)

module _ (r : Lent) (xs : List ℕ) where
  -- where no test of header, lengths and index holds, they fit together
  pub indexed_stands : number (indexed_tests r xs) ≡ 0 → StandingIn r xs
  indexed_stands z =
      let o = off_number (indexed_tests r xs) refl z in
      record {
        standing = stands_of r (number_off (lent_tests r) (off_first (lent_tests r) (tables_test r.head.shape (length xs) ∷ []) o));
        tables = eqb-true (length xs) (tables_in r.head.shape) (not-false _ (off_rest (lent_tests r) (tables_test r.head.shape (length xs) ∷ []) o).0);
      }

  module _ (l k : ℕ) where
    abbrev layer_test : List (Bool × ℕ)
    layer_test = (leb r.head.shape.layers l, 8) ∷ []

    -- refused with n
    refused-by : (n : ℕ) → n ≡ number (lookup_tests r xs l) → (n ≡ 0 → ⊥) → looked_up n false 0 0 ≡ lookup_call r xs l k
    unfolding lookup_call
    refused-by n e z = rw (ne_eqb (number (lookup_tests r xs l)) 0 (λ q. z (e ∙ q))) (ap (λ (m : ℕ). looked_up m false 0 0) e)

    -- by header, lengths or index
    pub look_unfit : (n : ℕ) → n ≡ number (indexed_tests r xs) → (n ≡ 0 → ⊥) → looked_up n false 0 0 ≡ lookup_call r xs l k
    look_unfit n e z = refused-by n (e ∙ sym (number_first (indexed_tests r xs) layer_test (λ q. z (e ∙ q)))) z

    -- by the layer, of which a caller has the number n
    pub look_outside : (n : ℕ) → n ≡ 8 → number (indexed_tests r xs) ≡ 0 → r.head.shape.layers ≤ l → looked_up n false 0 0 ≡ lookup_call r xs l k
    look_outside n e z h =
        refused-by n (e ∙ sym (number-rest (indexed_tests r xs) layer_test (off_number (indexed_tests r xs) refl z) ∙ rw (le-leb r.head.shape.layers l h))) (λ q. omega (arith, e, q))

    -- by neither
    pub look_there : number (indexed_tests r xs) ≡ 0 → l < r.head.shape.layers → (y : LookedUp) → y ≡ look_in (table_at r.head.shape xs l) (layer_at (view r) l).table k → y ≡ lookup_call r xs l k
    unfolding lookup_call
    look_there z h y q =
        let none : number (lookup_tests r xs l) ≡ 0 = number-rest (indexed_tests r xs) layer_test (off_number (indexed_tests r xs) refl z) ∙ rw (lt-leb r.head.shape.layers l h) in
        rw (eq-eqb (number (lookup_tests r xs l)) 0 none) q
