-- A header, slices and an index that fit together, and what a call leaves of its index. Assumes nothing.
use mathlib.Core.Path.{◌≡◌, refl}
use mathlib.Core.List.{List, [], ◌∷◌}
use Prim.Native.Nat.{ℕ}
use borrow.Author.Tests.{eq-eqb, ne_eqb, not-false, eqb-true}
use lib.ListN.{length}
use Rattle.words.specs.Tests.{number}
use Rattle.words.proofs.Tests.{off_number, off_first, off_rest, number_off}
use Rattle.layout.specs.Slices.{Lent}
use Rattle.layout.specs.Outcomes.{lent_tests}
use Rattle.layout.proofs.Lengths.{stands_of}
use Rattle.layout_index.specs.Tables.{tables_in, tables_test, indexed_tests, index_left}
use Rattle.layout_index.specs.inner.Needs.{StandingIn}

-- where no test of header, lengths and index holds, they fit together
pub indexed_stands : (r : Lent) (xs : List ℕ) → number (indexed_tests r xs) ≡ 0 → StandingIn r xs
indexed_stands r xs z =
    let o = off_number (indexed_tests r xs) refl z in
    record {
      standing = stands_of r (number_off (lent_tests r) (off_first (lent_tests r) (tables_test r.head.shape (length xs) ∷ []) o));
      tables = eqb-true (length xs) (tables_in r.head.shape) (not-false _ (off_rest (lent_tests r) (tables_test r.head.shape (length xs) ∷ []) o).0);
    }

pub index_kept : (n : ℕ) (made xs : List ℕ) → (n ≡ 0 → ⊥) → xs ≡ index_left n made xs
unfolding index_left
index_kept n made xs z = rw (ne_eqb n 0 z)

pub index-made : (n : ℕ) (made xs : List ℕ) → n ≡ 0 → made ≡ index_left n made xs
unfolding index_left
index-made n made xs z = rw (eq-eqb n 0 z)
