-- What the functions on an index need, by name.
use Rattle.std.specs.Prelude.{◌≡◌, ℕ, ◌*◌, ◌≤◌}

-- n candidates in nw words and nc counts
pub record Cover (nw nc n : ℕ) : Type 0 where
  pub words : nw ≡ 4 * nc
  pub used : n ≤ nc
