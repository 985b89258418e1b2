-- The count that an update would leave, what working it out needs, and its answer, by name.
use Rattle.std.specs.Prelude.{ℕ, zero, suc, ◌*◌, ◌^◌, ◌≤◌, ◌<◌, ◌≡◌, true, Option, is_some, IfSome, List, [], ◌∷◌, length, ℤ, pos, ◌+ℤ◌}
use Rattle.std.specs.Int.Signed.{mag}
use Rattle.words.specs.Num.{top}
use Rattle.matrix_storage.specs.Bits.{signed}
use Rattle.matrix_storage.specs.inner.Shaped.{Shaped}
use Rattle.countsketch_l2_norm.specs.Sketch.{cell_of, cell_at, add_rows, rows_fit}
use Rattle.countsketch_l2_norm.specs.Estimate.{estimate_of, cells_in_range}
use Rattle.countsketch_l2_norm.specs.inner.Needs.{sketch_of, rows_ready}

-- the estimate of row r after an update, from its counter before it
abbrev pub ahead_at : ℕ → ℕ → List ℤ → ℕ → ℕ → ℤ
ahead_at h w cells at r = signed h r (cell_at cells at +ℤ signed h r (pos w))

-- of k rows from row r on
unfoldable pub estimates_ahead : ℕ → ℕ → ℕ → List ℤ → ℕ → ℕ → List ℤ
estimates_ahead cols h w cells zero r = []
estimates_ahead cols h w cells (suc k) r = ahead_at h w cells (cell_of cols h r) r ∷ estimates_ahead cols h w cells k (suc r)

-- what the count after an update needs: the update may be made
pub record Countable (rows cols h w : ℕ) (xs : List ℤ) : Type 0 where
  pub shaped : Shaped rows cols
  pub room : rows * cols ≤ length xs
  pub light : w ≤ top
  pub cells : cells_in_range cols h xs rows 0 ≡ true
  pub fit : rows_fit cols h w xs rows 0 ≡ true

-- the answer of an update that is judged and counted, and not made: the count after it, or `None` where it may not be made
pub record CountedIfReady (rows cols h w : ℕ) (xs : List ℤ) (ws : List ℕ) (m : Option ℤ) : Type 0 where
  pub ready : is_some m ≡ rows_ready cols h w (sketch_of xs ws rows) rows 0
  pub count : IfSome m (λ n. n ≡ estimate_of rows cols h (add_rows cols h w rows 0 (sketch_of xs ws rows)).cells)
  pub fits : IfSome m (λ n. mag n < 2 ^ 63)
