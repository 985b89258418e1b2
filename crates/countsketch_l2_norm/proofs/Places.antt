-- Rows and columns as places in a list of counters. Assumes nothing.
use mathlib.Core.Path.{◌≡◌, sym, ap, ◌∙◌}
use Prim.Native.Nat.{ℕ, suc, ◌+◌, ◌*◌, ◌/◌, ◌≤◌, ◌<◌}
use native.Mathlib.Omega.{arith}
use native.Mathlib.Nat.{suc-mul, mul-le-mul, mul-le-mul_right}
use lib.Arith.{digits_div}
use Rattle.matrix_storage.specs.Bits.{max_rows, max_cols, hash_bits, mask_bits}
use Rattle.matrix_storage.specs.inner.Shaped.{Shaped}
use Rattle.matrix_storage.proofs.Cells.{row-bits, column-lt}
use Rattle.countsketch_l2_norm.specs.Sketch.{cell_of}

-- row r ends within n rows
pub row_end : (r n c : ℕ) → r < n → r * c + c ≤ n * c
row_end r n c h = let k : suc r * c ≤ n * c = mul-le-mul_right c h in omega (arith, suc-mul r c)

pub row_small : (r c : ℕ) → r < max_rows → c ≤ max_cols → r * c ≤ max_rows * max_cols
row_small r c h k = let q : r ≤ max_rows = omega arith in mul-le-mul q k

-- a column of a row lies within the list
pub place-lt : (rows cols r c len : ℕ) → r < rows → c < cols → rows * cols ≤ len → r * cols + c < len
place-lt rows cols r c len k h l = omega (arith, row_end r rows cols k)

pub cell-lt : (rows cols h r len : ℕ) → 1 ≤ cols → r < rows → rows * cols ≤ len → cell_of cols h r < len
cell-lt rows cols h r len p k l = omega (arith, row_end r rows cols k, column-lt cols h r p)

-- and stands before every later row
pub cell-before : (cols h r q : ℕ) → 1 ≤ cols → r < q → cell_of cols h r < q * cols
cell-before cols h r q p k = omega (arith, row_end r q cols k, column-lt cols h r p)

-- a place is of one row and one column only
pub same_row : (cols q r c e : ℕ) → c < cols → e < cols → q * cols + c ≡ r * cols + e → q ≡ r
same_row cols q r c e hc he p = sym (digits_div q hc) ∙ ap (λ (n : ℕ). n / cols) p ∙ digits_div r he

pub same-col : (cols q r c e : ℕ) → c < cols → e < cols → q * cols + c ≡ r * cols + e → c ≡ e
same-col cols q r c e hc he p = omega (arith, p, ap (λ (n : ℕ). n * cols) (same_row cols q r c e hc he p))

-- what `place` asks for
pub place_asks : (rows cols r bits : ℕ) → Shaped rows cols → r < rows → bits ≡ mask_bits cols → ((1 ≤ cols) × ((cols ≤ max_cols) × (bits ≡ mask_bits cols))) × ((r < max_rows) × (r * mask_bits cols < hash_bits))
place_asks rows cols r bits s k e = ((s.some, (s.wide, e)), (omega (arith, s.few), row-bits rows cols r s k))
