-- Rows and columns as the code needs them.
use Rattle.matrix_storage.specs.Bits.{hash_bits, mask_bits, max_cols, max_rows}
use Rattle.std.specs.Prelude.{◌*◌, ◌+◌, ◌≤◌, ℕ}

-- rows and columns that are refused by nothing
pub record Shaped (rows cols : ℕ) : Type 0 where
  pub tall : 1 ≤ rows
  pub few : rows ≤ max_rows
  pub some : 1 ≤ cols
  pub wide : cols ≤ max_cols
  pub bits : (mask_bits cols + 1) * rows ≤ hash_bits
