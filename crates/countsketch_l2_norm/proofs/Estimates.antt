-- The rows' estimates, and the count as the estimate, cut. Assumes nothing.
use mathlib.Core.Path.{◌≡◌, refl, sym, ap, ◌∙◌}
use mathlib.Core.Bool.{true}
use Prim.Native.Nat.{ℕ, zero, suc}
use mathlib.Core.List.{List, [], ◌∷◌, map}
use lib.ListN.{take}
use lib.IntN.{ℤ}
use lib.Dec.{leb}
use lib.Ieee.{binary64, of_int, to_signed}
use Rattle.words.specs.Num.{top, in_range, all_in}
use Rattle.words.proofs.Bools.{and_left, and_right, both}
use Rattle.matrix_storage.specs.Bits.{signed}
use Rattle.matrix_storage.proofs.Cells.{abs-signed}
use Rattle.structure_utils.specs.Median.{sort_z, middle, middle_f}
use Rattle.structure_utils.proofs.Sorting.{all_sort}
use Rattle.structure_utils.proofs.Floats.{median_ints, count-is}
use Rattle.countsketch_l2_norm.specs.Sketch.{cell_of, cell_at}
use Rattle.countsketch_l2_norm.specs.Estimate.{estimates, estimate_f, estimate_of, cells_in_range}

in_signed : (h r : ℕ) (v : ℤ) → in_range v ≡ true → in_range (signed h r v) ≡ true
unfolding in_range
in_signed h r v e = ap (λ (n : ℕ). leb n top) (abs-signed h r v) ∙ e

pub all-estimates : (cols h : ℕ) (xs : List ℤ) (k r : ℕ) → cells_in_range cols h xs k r ≡ true → all_in (estimates cols h xs k r) ≡ true
unfolding cells_in_range estimates all_in
all-estimates cols h xs zero r e = refl
all-estimates cols h xs (suc k) r e =
    both (in_signed h r (cell_at xs (cell_of cols h r)) (and_left (in_range (cell_at xs (cell_of cols h r))) (cells_in_range cols h xs k (suc r)) e))
    (all-estimates cols h xs k (suc r) (and_right (in_range (cell_at xs (cell_of cols h r))) (cells_in_range cols h xs k (suc r)) e))

-- "A count is the estimate cut toward zero."
pub count_cut : (rows cols h : ℕ) (xs : List ℤ) → cells_in_range cols h xs rows 0 ≡ true → to_signed 63 (estimate_f rows cols h xs) ≡ estimate_of rows cols h xs
unfolding estimate_f estimate_of
count_cut rows cols h xs e = count-is (estimates cols h xs rows 0) (all-estimates cols h xs rows 0 e)

-- ---- in the buffer

pub estimates-none : (cols h : ℕ) (xs : List ℤ) (r : ℕ) → estimates cols h xs 0 r ≡ []
unfolding estimates
estimates-none cols h xs r = refl

pub estimates_more : (cols h : ℕ) (xs : List ℤ) (n r : ℕ) (v : ℤ) → v ≡ signed h r (cell_at xs (cell_of cols h r)) → estimates cols h xs (suc n) r ≡ v ∷ estimates cols h xs n (suc r)
unfolding estimates
estimates_more cols h xs n r v e = ap (λ (z : ℤ). z ∷ estimates cols h xs n (suc r)) (sym e)

pub sorted_in : (rows cols h : ℕ) (xs buf : List ℤ) → take rows buf ≡ sort_z (estimates cols h xs rows 0) → cells_in_range cols h xs rows 0 ≡ true → all_in (take rows buf) ≡ true
sorted_in rows cols h xs buf e i = rw e (all_sort (estimates cols h xs rows 0) (all-estimates cols h xs rows 0 i))

pub sorted_count : (rows cols h : ℕ) (xs buf : List ℤ) → take rows buf ≡ sort_z (estimates cols h xs rows 0) → middle (take rows buf) ≡ estimate_of rows cols h xs
unfolding estimate_of
sorted_count rows cols h xs buf e = ap middle e

pub sorted_float : (rows cols h : ℕ) (xs buf : List ℤ) → take rows buf ≡ sort_z (estimates cols h xs rows 0) → cells_in_range cols h xs rows 0 ≡ true → middle_f (map (of_int binary64) (take rows buf)) ≡ estimate_f rows cols h xs
unfolding estimate_f
sorted_float rows cols h xs buf e i = ap (λ (l : List ℤ). middle_f (map (of_int binary64) l)) e ∙ sym (median_ints (estimates cols h xs rows 0) (all-estimates cols h xs rows 0 i))

-- of estimates that stand in the rows' order, not yet sorted
pub counted_in : (rows cols h : ℕ) (xs es : List ℤ) → es ≡ estimates cols h xs rows 0 → cells_in_range cols h xs rows 0 ≡ true → all_in es ≡ true
counted_in rows cols h xs es e i = rw e (all-estimates cols h xs rows 0 i)

pub counted : (rows cols h : ℕ) (xs es : List ℤ) → es ≡ estimates cols h xs rows 0 → middle (sort_z es) ≡ estimate_of rows cols h xs
unfolding estimate_of
counted rows cols h xs es e = ap (λ (l : List ℤ). middle (sort_z l)) e
