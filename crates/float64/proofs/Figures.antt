-- Figures, worked out from the definitions: rows of one computed check.
use Rattle.std.proofs.Common.{ℕ, ◌+◌, ◌-◌, ◌*◌, ◌^◌, Bool, true, false, ◌&&◌, T, eqb, List, [], ◌∷◌, ℤ, pos, negsuc}
use lib.Signed.{le_z}
use lib.Count.{count_leading_zeros}
use lib.Ieee.{Float, binary64, of_int, of_bits, to_bits, to_signed, div}
use lib.Ieee.Positive.{num, den}
use Rattle.float64.specs.Values.{plain}
use Rattle.float64.specs.Norm.{norm_read}
use Rattle.float64.specs.Root.{root}
use Rattle.float64.specs.RootCount.{root_count}
use Rattle.float64.specs.Cut.{heavy_threshold}

-- a norm reads as a number; a number has a root, of which so many digits are worked out; a pattern has a root's pattern and so many digits, and is cut to a number; an l2, a heap size and a flag give a threshold
pub data Row : Type 0 where
  reads : ℕ → ℕ → Row
  rooted : ℕ → ℕ → Row
  root_bits : ℕ → ℕ → Row
  digits : ℕ → ℕ → Row
  digits_bits : ℕ → ℕ → Row
  cuts : ℕ → ℤ → Row
  threshold : ℕ → ℕ → Bool → ℤ → Row

-- x is the whole number n, exactly
unfoldable pub is_whole : Float → ℕ → Bool
is_whole x n = plain x && eqb (num x) (n * den x)

unfoldable pub same_z : ℤ → ℤ → Bool
same_z a b = le_z a b && le_z b a

unfoldable pub right : Row → Bool
unfolding is_whole same_z
right (reads n m) = is_whole (norm_read n) m
right (rooted n m) = is_whole (of_int binary64 (pos n)) n && is_whole (root (of_int binary64 (pos n))) m
right (root_bits b c) = eqb (to_bits binary64 (root (of_bits binary64 b))) c
right (digits n k) = is_whole (of_int binary64 (pos n)) n && eqb (root_count (of_int binary64 (pos n))) k
right (digits_bits b k) = eqb (root_count (of_bits binary64 b)) k
right (cuts b z) = same_z (to_signed 63 (of_bits binary64 b)) z
right (threshold l size complete z) = same_z (heavy_threshold (of_int binary64 (pos l)) size complete) z

unfoldable pub all_right : List Row → Bool
unfolding right
all_right [] = true
all_right (x ∷ xs) = right x && all_right xs

unfoldable pub rows : List Row
rows =
    -- "Norm 2^53 + 1 reads as 2^53. Two capped cells read as 2^63."
    reads (2 ^ 53 + 1) (2 ^ 53)
    ∷ reads (2 ^ 63 + 2 ^ 63) (2 ^ 63)
    -- a tie that goes up, and the greatest norm that is read
    ∷ reads (2 ^ 53 + 3) (2 ^ 53 + 4)
    ∷ reads (2 ^ 63 - 1) (2 ^ 63)
    -- the root of 25 is 5; of 2, of 2^63, of the greatest value, of the least, of the greatest subnormal
    ∷ rooted 25 5
    ∷ root_bits 0x4000000000000000 0x3FF6A09E667F3BCD
    ∷ root_bits 0x43E0000000000000 0x41E6A09E667F3BCD
    ∷ root_bits 0x7FEFFFFFFFFFFFFF 0x5FEFFFFFFFFFFFFF
    ∷ root_bits 1 0x1E60000000000000
    ∷ root_bits 0x000FFFFFFFFFFFFF 0x1FFFFFFFFFFFFFFF
    -- of -0, of +infinity, and of -1, of -infinity and of a NaN, whose root is a NaN
    ∷ root_bits 0x8000000000000000 0x8000000000000000
    ∷ root_bits 0x7FF0000000000000 0x7FF0000000000000
    ∷ root_bits 0xBFF0000000000000 0x7FF8000000000000
    ∷ root_bits 0xFFF0000000000000 0x7FF8000000000000
    ∷ root_bits 0x7FF8000000000000 0x7FF8000000000000
    -- the digits worked out: of 0, 1, 2, 4, 9, 25, (2^26 + 1)^2, 2^62 and 2^63
    ∷ digits 0 0
    ∷ digits 1 1
    ∷ digits 2 54
    ∷ digits 4 1
    ∷ digits 9 2
    ∷ digits 25 3
    ∷ digits ((2 ^ 26 + 1) * (2 ^ 26 + 1)) 27
    ∷ digits (2 ^ 62) 1
    ∷ digits (2 ^ 63) 54
    -- of 0.25, of the least value, twice it, nine times it, of the greatest subnormal and of the greatest value
    ∷ digits_bits 0x3FD0000000000000 1
    ∷ digits_bits 1 1
    ∷ digits_bits 2 54
    ∷ digits_bits 9 2
    ∷ digits_bits 0x000FFFFFFFFFFFFF 54
    ∷ digits_bits 0x7FEFFFFFFFFFFFFF 54
    -- of -0, of +infinity, of -4, of -infinity and of a NaN
    ∷ digits_bits 0x8000000000000000 0
    ∷ digits_bits 0x7FF0000000000000 0
    ∷ digits_bits 0xC010000000000000 0
    ∷ digits_bits 0xFFF0000000000000 0
    ∷ digits_bits 0x7FF8000000000000 0
    -- 2.5 and -2.5 are cut toward zero; then -0.5, 2^63, the infinities and a NaN
    ∷ cuts 0x4004000000000000 (pos 2)
    ∷ cuts 0xC004000000000000 (negsuc 1)
    ∷ cuts 0xBFE0000000000000 (pos 0)
    ∷ cuts 0x43E0000000000000 (pos (2 ^ 63 - 1))
    ∷ cuts 0x7FF0000000000000 (pos (2 ^ 63 - 1))
    ∷ cuts 0xFFF0000000000000 (negsuc (2 ^ 63 - 1))
    ∷ cuts 0x7FF8000000000000 (pos 0)
    -- a complete layer, one that is not, and a heap size of 0
    ∷ threshold 5 4 true (pos 0)
    ∷ threshold 5 4 false (pos 2)
    ∷ threshold 5 0 false (pos (2 ^ 63 - 1))
    ∷ threshold 0 0 false (pos 0)
    ∷ []

pub figures : T (all_right rows)
unfolding all_right rows norm_read root root_count heavy_threshold of_int of_bits to_bits to_signed div count_leading_zeros
figures = tt
