-- What functions on a lent state with an index need, by name.
use Rattle.std.specs.Prelude.{ℕ, ◌≡◌, List, length}
use Rattle.layout.specs.Slices.{Lent}
use Rattle.layout.specs.inner.Needs.{Standing}
use Rattle.layout_index.specs.Tables.{tables_in}

-- a header, slices and an index that fit together
pub record StandingIn (r : Lent) (xs : List ℕ) : Type 0 where
  pub standing : Standing r
  pub tables : length xs ≡ tables_in r.head.shape
