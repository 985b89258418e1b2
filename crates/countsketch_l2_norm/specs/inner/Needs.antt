-- What updates, deltas and norms are to the code, and what the stores need, by name.
use Rattle.std.specs.Prelude.{ℕ, ◌+◌, ◌-◌, ◌*◌, ◌^◌, ◌≤◌, ◌<◌, min, ◌%◌, ◌/◌, ◌≡◌, true, Bool, ◌&&◌, Option, is_some, IfSome, IfNone, List, length, set, ℤ, pos, nat_abs, ◌+ℤ◌}
use Rattle.std.specs.Int.Signed.{mag}
use Rattle.words.specs.Num.{top, square_cap, capped, word_size}
use Rattle.float64.specs.Norm.{norm_top}
use Rattle.matrix_storage.specs.Bits.{max_rows, max_cols, signed}
use Rattle.matrix_storage.specs.inner.Shaped.{Shaped}
use Rattle.countsketch_l2_norm.specs.Norms.{norm_at, norms_of}
use Rattle.countsketch_l2_norm.specs.Sketch.{cell_at, cell_read, cell_fits, rows_read, rows_fit, add_rows, Sketch}
use Rattle.countsketch_l2_norm.specs.Estimate.{estimate_of}

-- the sketch of the slices
abbrev pub sketch_of : List ℤ → List ℕ → ℕ → Sketch
sketch_of xs ws rows = record { cells = xs; norms = norms_of ws rows }

-- what is read is in range and fits, where it does not matter which of them fails
abbrev pub rows_ready : ℕ → ℕ → ℕ → Sketch → ℕ → ℕ → Bool
rows_ready cols h w s k r = rows_read cols h s k r && rows_fit cols h w s.cells k r

-- norm r stored
unfoldable pub set_norm : List ℕ → ℕ → ℕ → List ℕ
set_norm ws r n = set (set ws (2 * r) (n % word_size)) (2 * r + 1) (n / word_size)

-- a norm "clamped to 2^63 − 1", as the whole number that it is before it becomes a float
abbrev pub clamped : ℕ → ℤ
clamped n = pos (min n norm_top)

-- what the stores of an update need
pub record Ready (rows cols h w : ℕ) (xs : List ℤ) (ws : List ℕ) : Type 0 where
  pub shaped : Shaped rows cols
  pub room : rows * cols ≤ length xs
  pub pairs : 2 * rows ≤ length ws
  pub light : w ≤ top
  pub read : rows_read cols h (sketch_of xs ws rows) rows 0 ≡ true
  pub fit : rows_fit cols h w xs rows 0 ≡ true

-- what the store of one counter and its row's norm needs
pub record CellReady (at r : ℕ) (d : ℤ) (xs : List ℤ) (ws : List ℕ) : Type 0 where
  pub inside : at < length xs
  pub few : r < max_rows
  pub pair : 2 * r + 1 < length ws
  pub cell_in : nat_abs (cell_at xs at) ≤ top
  pub sum_in : nat_abs (cell_at xs at +ℤ d) ≤ top
  pub holds : capped (cell_at xs at) ≤ norm_at ws r
  pub norm_in : norm_at ws r ≤ max_cols * square_cap

-- what row r of an update leaves of counters and norms, with the place of its counter, and its estimate v after it
pub record RowAdded (at h w r : ℕ) (xs : List ℤ) (ws : List ℕ) (ys : List ℤ) (vs : List ℕ) (v : ℤ) : Type 0 where
  pub cells : ys ≡ set xs at (cell_at xs at +ℤ signed h r (pos w))
  pub norms : vs ≡ set_norm ws r (norm_at ws r - capped (cell_at xs at) + capped (cell_at xs at +ℤ signed h r (pos w)))
  pub estimate : v ≡ signed h r (cell_at ys at)

-- what an update that is made only where it may be leaves of counters and norms, and its answer: the count after it, or `None` where it is not made
pub record MadeIfReady (rows cols h w : ℕ) (xs : List ℤ) (ws : List ℕ) (ys : List ℤ) (vs : List ℕ) (m : Option ℤ) : Type 0 where
  pub ready : is_some m ≡ rows_ready cols h w (sketch_of xs ws rows) rows 0
  pub made : IfSome m (λ n. (sketch_of ys vs rows ≡ add_rows cols h w rows 0 (sketch_of xs ws rows)) × (n ≡ estimate_of rows cols h ys))
  pub kept : IfNone m ((ys ≡ xs) × (vs ≡ ws))
  pub fits : IfSome m (λ n. mag n < 2 ^ 63)

-- a row and a column within the counters
pub record CellPlaced (rows cols row col : ℕ) (xs : List ℤ) : Type 0 where
  pub shaped : Shaped rows cols
  pub room : rows * cols ≤ length xs
  pub below : row < rows
  pub inside : col < cols

-- what a delta on that counter needs
pub record CellDeltaReady (rows cols row col : ℕ) (d : ℤ) (xs : List ℤ) (ws : List ℕ) : Type 0 where
  pub placed : CellPlaced rows cols row col xs
  pub pairs : 2 * rows ≤ length ws
  pub read : cell_read cols (row * cols + col) row (sketch_of xs ws rows) ≡ true
  pub fit : cell_fits (row * cols + col) d xs ≡ true
