-- The number of a delta's grade is the number of the three tests of its layer. Assumes nothing.
use mathlib.Core.Path.{◌≡◌, refl, ap, ◌∙◌}
use mathlib.Core.Bool.{Bool, true, false, cond, not}
use mathlib.Core.List.{List, [], ◌∷◌}
use Prim.Native.Nat.{ℕ}
use lib.Dec.{eqb}
use borrow.Author.Tests.{not-false}
use Rattle.words.specs.Tests.{number}
use Rattle.words.proofs.Tests.{Off}
use Rattle.layer.specs.declared.Dims.{Dims}
use Rattle.layer.specs.Layer.{Layer}
use Rattle.layer.specs.Delta.{Delta, delta_fits}
use Rattle.layer_indexed.specs.Adding.{delta_reads_in, delta_moves_in}
use Rattle.layer_indexed.specs.inner.Needs.{grade_by, delta_grade}
use Rattle.univmon_delta_indexed.specs.Deltas.{delta_tests_in}

-- what a grade is refused with, 0 where it is fine
abbrev pub refused_by : ℕ → ℕ
refused_by g = cond (eqb g 4) 0 (cond (eqb g 2) 11 9)

by_tests : (reads fits moves : Bool) → refused_by (grade_by reads fits moves) ≡ number ((not reads, 9) ∷ (not fits, 11) ∷ (not moves, 9) ∷ [])
by_tests false f m = refl
by_tests true false m = refl
by_tests true true false = refl
by_tests true true true = refl

all_hold : (reads fits moves : Bool) → reads ≡ true → fits ≡ true → moves ≡ true → grade_by reads fits moves ≡ 4
all_hold reads fits moves a b c = rw (a, b, c)

module _ (d : Dims) (u : Delta) (xs : List ℕ) (y : Layer) where
  pub number_graded : (g n : ℕ) → g ≡ delta_grade d u xs y → n ≡ refused_by g → n ≡ number (delta_tests_in d u xs y)
  unfolding delta_grade
  number_graded g n e q = q ∙ ap refused_by e ∙ by_tests (delta_reads_in d u xs y) (delta_fits d u y) (delta_moves_in d u xs y)

  -- where no test refuses, the delta may be made
  pub grade_off : Off (delta_tests_in d u xs y) → delta_grade d u xs y ≡ 4
  unfolding delta_grade
  grade_off p = all_hold (delta_reads_in d u xs y) (delta_fits d u y) (delta_moves_in d u xs y) (not-false _ p.0) (not-false _ p.1.0) (not-false _ p.1.1.0)
