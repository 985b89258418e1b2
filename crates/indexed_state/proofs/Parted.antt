-- What a passed check of a state with its index says of its parts, and back. Assumes nothing.
use mathlib.Core.Path.{◌≡◌}
use mathlib.Core.Bool.{Bool, true, false, ◌&&◌}
use mathlib.Core.List.{List}
use Prim.Native.Nat.{ℕ, ◌<◌}
use native.Mathlib.Omega.{arith}
use borrow.Author.Tests.{eq-eqb, ne_eqb, eqb-true}
use lib.ListN.{length}
use lib.Dec.{eqb}
use Rattle.words.proofs.Bools.{and_left, and_right, both}
use Rattle.layout.specs.State.{layer_at}
use Rattle.layout.specs.Slices.{Lent, view}
use Rattle.layout.proofs.States.{all-at}
use Rattle.layout.proofs.Replaced.{all-layers}
use Rattle.layout_index.specs.Tables.{tables_in, table_at}
use Rattle.layout_index.specs.inner.Needs.{StandingIn}
use Rattle.state_check.specs.Check.{state_ok}
use Rattle.state_check.proofs.WholeStates.{ok-standing}
use Rattle.indexed_state.specs.Check.{table_ok, tables_ok, indexed_ok}

module _ (r : Lent) (xs : List ℕ) where
  abbrev pub TablesPass : Type 0
  TablesPass = (l : ℕ) → l < r.head.shape.layers → table_ok (table_at r.head.shape xs l) (layer_at (view r) l) ≡ true

  pub indexed_parts : indexed_ok r xs ≡ true → (state_ok r ≡ true) × ((length xs ≡ tables_in r.head.shape) × TablesPass)
  unfolding indexed_ok view
  indexed_parts e =
      let n = eqb (length xs) (tables_in r.head.shape) in
      let rest = and_right (state_ok r) (n && tables_ok (view r) xs) e in (
        and_left (state_ok r) (n && tables_ok (view r) xs) e,
        (
          eqb-true (length xs) (tables_in r.head.shape) (and_left n (tables_ok (view r) xs) rest),
          λ l h.
              all-at (λ m y. table_ok (table_at r.head.shape xs m) y) r.head.shape.layers 0 (view r) l (omega arith) (omega (arith, h)) (and_right n (tables_ok (view r) xs) rest),
        ),
      )

  pub indexed_whole : state_ok r ≡ true → length xs ≡ tables_in r.head.shape → TablesPass → indexed_ok r xs ≡ true
  unfolding indexed_ok view
  indexed_whole e long pass =
      both e
      (both (eq-eqb (length xs) (tables_in r.head.shape) long)
      (all-layers (λ m y. table_ok (table_at r.head.shape xs m) y) r.head.shape.layers 0 (view r) (λ m a b. pass m (omega (arith, b)))))

  -- header, slices and index of such a state fit together
  pub indexed_standing : indexed_ok r xs ≡ true → StandingIn r xs
  indexed_standing e = let p = indexed_parts e in record { standing = ok-standing r p.0; tables = p.1.0 }

  -- ---- what the code says, test by test

  pub indexed-state : state_ok r ≡ false → false ≡ indexed_ok r xs
  unfolding indexed_ok
  indexed-state e = rw e

  pub indexed_length : state_ok r ≡ true → (length xs ≡ tables_in r.head.shape → ⊥) → false ≡ indexed_ok r xs
  unfolding indexed_ok
  indexed_length e n = rw (e, ne_eqb (length xs) (tables_in r.head.shape) n)

  pub indexed_tables : (b : Bool) → state_ok r ≡ true → length xs ≡ tables_in r.head.shape → b ≡ tables_ok (view r) xs → b ≡ indexed_ok r xs
  unfolding indexed_ok
  indexed_tables b e n q = rw (e, eq-eqb (length xs) (tables_in r.head.shape) n) q
