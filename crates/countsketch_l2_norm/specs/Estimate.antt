-- The estimate of a hash's count from one layer's counters.
use Rattle.std.specs.Prelude.{ℕ, zero, suc, Bool, true, ◌&&◌, List, [], ◌∷◌, map, ℤ, Float}
use Rattle.std.specs.Float.{binary64}
use Rattle.std.specs.Float.Ieee.{of_int}
use Rattle.words.specs.Num.{in_range}
use Rattle.matrix_storage.specs.Bits.{signed}
use Rattle.structure_utils.specs.Median.{sort_z, middle, median}
use Rattle.countsketch_l2_norm.specs.Sketch.{cell_of, cell_at}

-- the estimates of k rows from row r on
unfoldable pub estimates : ℕ → ℕ → List ℤ → ℕ → ℕ → List ℤ
estimates cols h cells zero r = []
estimates cols h cells (suc k) r = signed h r (cell_at cells (cell_of cols h r)) ∷ estimates cols h cells k (suc r)

-- "Median of row estimates: .. in f64."
unfoldable pub estimate_f : ℕ → ℕ → ℕ → List ℤ → Float
estimate_f rows cols h cells = median (map (of_int binary64) (estimates cols h cells rows 0))

-- "A count is the estimate cut toward zero.": in whole numbers; the law `count_cut` says that this is the float, cut
unfoldable pub estimate_of : ℕ → ℕ → ℕ → List ℤ → ℤ
estimate_of rows cols h cells = middle (sort_z (estimates cols h cells rows 0))

-- the counters that a hash names are in range: what an estimate reads
unfoldable pub cells_in_range : ℕ → ℕ → List ℤ → ℕ → ℕ → Bool
cells_in_range cols h cells zero r = true
cells_in_range cols h cells (suc k) r = in_range (cell_at cells (cell_of cols h r)) && cells_in_range cols h cells k (suc r)
