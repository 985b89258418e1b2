-- One layer's counters and norms: an update and a delta, what each reads, whether it fits.
use Rattle.std.specs.Prelude.{ℕ, zero, suc, ◌+◌, ◌-◌, ◌*◌, Bool, true, ◌&&◌, List, get_or, set, ℤ, pos, ◌+ℤ◌, leb}
use Rattle.words.specs.Num.{square_cap, in_range, capped}
use Rattle.matrix_storage.specs.Bits.{column, signed}

-- rows × cols counters by row, then column; a norm for each row
pub record Sketch : Type 0 where
  pub cells : List ℤ
  pub norms : List ℕ

-- the place of the counter of row r that a hash names
abbrev pub cell_of : ℕ → ℕ → ℕ → ℕ
cell_of cols h r = r * cols + column cols h r

abbrev pub cell_at : List ℤ → ℕ → ℤ
cell_at cells i = get_or cells i (pos 0)

-- ---- one counter

-- The counter at a place takes a number, and its row's norm gives up the counter's old capped square and takes the new one.
unfoldable pub add_cell : ℕ → ℕ → ℤ → Sketch → Sketch
add_cell at r d s =
    record {
      cells = set s.cells at (cell_at s.cells at +ℤ d);
      norms = set s.norms r (get_or s.norms r 0 - capped (cell_at s.cells at) + capped (cell_at s.cells at +ℤ d));
    }

-- What is read is in range: "A norm's range is 0 to cols × 2^63", and "a norm below the square it gives up" is refused too.
abbrev pub row_read : ℤ → ℕ → ℕ → Bool
row_read x n cols = in_range x && leb n (cols * square_cap) && leb (capped x) n

-- the same of the counter at a place and its row's norm
abbrev pub cell_read : ℕ → ℕ → ℕ → Sketch → Bool
cell_read cols at r s = row_read (cell_at s.cells at) (get_or s.norms r 0) cols

-- "a counter would leave ±2^52"
abbrev pub cell_fits : ℕ → ℤ → List ℤ → Bool
cell_fits at d cells = in_range (cell_at cells at +ℤ d)

-- ---- "An update adds sign × weight in each row."

-- row r
abbrev pub add_row : ℕ → ℕ → ℕ → ℕ → Sketch → Sketch
add_row cols h w r s = add_cell (cell_of cols h r) r (signed h r (pos w)) s

-- k rows from row r on
unfoldable pub add_rows : ℕ → ℕ → ℕ → ℕ → ℕ → Sketch → Sketch
add_rows cols h w zero r s = s
add_rows cols h w (suc k) r s = add_rows cols h w k (suc r) (add_row cols h w r s)

-- what an update reads of k rows from row r on
unfoldable pub rows_read : ℕ → ℕ → Sketch → ℕ → ℕ → Bool
rows_read cols h s zero r = true
rows_read cols h s (suc k) r = cell_read cols (cell_of cols h r) r s && rows_read cols h s k (suc r)

-- none of their counters leaves the range
unfoldable pub rows_fit : ℕ → ℕ → ℕ → List ℤ → ℕ → ℕ → Bool
rows_fit cols h w cells zero r = true
rows_fit cols h w cells (suc k) r = cell_fits (cell_of cols h r) (signed h r (pos w)) cells && rows_fit cols h w cells k (suc r)
