-- The L2 norm of a layer.
use Rattle.std.specs.Prelude.{ℕ, ◌*◌, Bool, true, ◌&&◌, List, [], ◌∷◌, map, leb, Float}
use Rattle.words.specs.Num.{square_cap}
use Rattle.float64.specs.Norm.{norm_read}
use Rattle.float64.specs.Root.{root}
use Rattle.structure_utils.specs.Median.{median}

-- "A norm read is clamped to 2^63 − 1, then becomes the nearest f64 .. L2 squared is the median of these"
unfoldable pub l2_squared : List ℕ → Float
l2_squared norms = median (map norm_read norms)

-- "L2 its correctly rounded root"
unfoldable pub l2_of : List ℕ → Float
l2_of norms = root (l2_squared norms)

-- "A norm's range is 0 to cols × 2^63."
unfoldable pub norms_in_range : ℕ → List ℕ → Bool
norms_in_range cols [] = true
norms_in_range cols (n ∷ ns) = leb n (cols * square_cap) && norms_in_range cols ns
