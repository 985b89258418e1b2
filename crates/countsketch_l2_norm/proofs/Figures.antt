-- Figures, worked out from the definitions: rows of one computed check.
use Prim.Native.Nat.{ℕ, ◌*◌, ◌^◌}
use mathlib.Core.Bool.{Bool, true, ◌&&◌}
use mathlib.Core.List.{List, [], ◌∷◌}
use lib.ListN.{get_or, replicate}
use lib.IntN.{ℤ, pos, negsuc}
use lib.Dec.{T, eqb}
use lib.Signed.{le_z}
use lib.Ieee.{Float, of_int, of_bits, to_bits, round, add, div, le}
use lib.Ieee.Positive.{num, den}
use lib.Count.{count_leading_zeros}
use Rattle.words.specs.Num.{capped}
use Rattle.float64.specs.Values.{plain}
use Rattle.float64.specs.Norm.{norm_read}
use Rattle.float64.specs.Root.{root}
use Rattle.matrix_storage.specs.Bits.{column, signed, hash_of, mask_bits, log2, log2_in}
use Rattle.structure_utils.specs.Median.{median, middle, middle_f, sort_by, insert_by}
use Rattle.countsketch_l2_norm.specs.Sketch.{Sketch, cell_at, add_cell, add_rows}
use Rattle.countsketch_l2_norm.specs.Estimate.{estimates, estimate_f, estimate_of}
use Rattle.countsketch_l2_norm.specs.Merge.{sum_below, squares_from, row_norm}
use Rattle.countsketch_l2_norm.specs.L2.{l2_squared, l2_of}

-- "4 cols, 2 rows, high 0x8000000000000000, low 6 .. Weight 5"
unfoldable pub hash : ℕ
hash = hash_of 0x8000000000000000 6

unfoldable pub updated : Sketch
updated = add_rows 4 hash 5 2 0 (record { cells = replicate 8 (pos 0); norms = 0 ∷ 0 ∷ [] })

-- of a row: its column and its sign; of a place: its counter; of a row: its norm; the count, the estimate and the L2; the L2 of norms
pub data Row : Type 0 where
  column_is : ℕ → ℕ → Row
  sign_is : ℕ → ℤ → Row
  counter_is : ℕ → ℤ → Row
  norm_is : ℕ → ℕ → Row
  count_is : ℤ → Row
  estimate_is : ℕ → Row
  l2_is : ℕ → Row
  capped_row : List ℤ → ℕ → ℕ → Row

-- x is the whole number n, exactly
unfoldable pub is_whole : Float → ℕ → Bool
is_whole x n = plain x && eqb (num x) (n * den x)

unfoldable pub same_z : ℤ → ℤ → Bool
same_z a b = le_z a b && le_z b a

unfoldable pub right : Row → Bool
unfolding is_whole same_z hash updated
right (column_is r c) = eqb (column 4 hash r) c
right (sign_is r z) = same_z (signed hash r (pos 1)) z
right (counter_is i z) = same_z (cell_at updated.cells i) z
right (norm_is r n) = eqb (get_or updated.norms r 0) n
right (count_is z) = same_z (estimate_of 2 4 hash updated.cells) z
right (estimate_is n) = is_whole (estimate_f 2 4 hash updated.cells) n
right (l2_is n) = is_whole (l2_of updated.norms) n
right (capped_row xs n read) = eqb (row_norm 2 xs 0) n && is_whole (norm_read (row_norm 2 xs 0)) read

unfoldable pub all_right : List Row → Bool
unfolding right
all_right [] = true
all_right (x ∷ xs) = right x && all_right xs

unfoldable pub rows : List Row
rows =
    -- "columns 2 and 1, signs + and −"
    column_is 0 2
    ∷ column_is 1 1
    ∷ sign_is 0 (pos 1)
    ∷ sign_is 1 (negsuc 0)
    -- "counters +5 and −5, norms 25 and 25, estimate 5, L2 5", and the other counters
    ∷ counter_is 2 (pos 5)
    ∷ counter_is 5 (negsuc 4)
    ∷ counter_is 0 (pos 0)
    ∷ counter_is 1 (pos 0)
    ∷ counter_is 3 (pos 0)
    ∷ counter_is 4 (pos 0)
    ∷ counter_is 6 (pos 0)
    ∷ counter_is 7 (pos 0)
    ∷ norm_is 0 25
    ∷ norm_is 1 25
    ∷ count_is (pos 5)
    ∷ estimate_is 5
    ∷ l2_is 5
    -- "Two capped cells read as 2^63.", and one square below the cap beside one at it
    ∷ capped_row (pos 3037000500 ∷ negsuc 3037000499 ∷ []) (2 ^ 64) (2 ^ 63)
    ∷ capped_row (pos 3037000499 ∷ pos (2 ^ 52) ∷ []) 18446744067781024809 (2 ^ 63)
    ∷ []

pub figures : T (all_right rows)
unfolding all_right rows add_rows add_cell column signed hash_of mask_bits log2 log2_in capped estimate_of estimate_f estimates median middle middle_f sort_by insert_by l2_of l2_squared squares_from sum_below norm_read root of_int of_bits to_bits round add div le count_leading_zeros
figures = tt
