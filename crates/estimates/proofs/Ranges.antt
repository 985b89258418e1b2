-- What a sum reads of counters that are in range. Assumes nothing.
use mathlib.Core.Path.{◌≡◌, refl}
use mathlib.Core.Bool.{true}
use mathlib.Core.List.{List, [], ◌∷◌}
use lib.IntN.{ℤ}
use Rattle.words.specs.Num.{all_in}
use Rattle.words.proofs.Bools.{both}
use Rattle.countsketch_l2_norm.proofs.After.{all-cells}
use Rattle.heap_moves.specs.declared.Item.{Item}
use Rattle.layer.specs.declared.Dims.{Dims}
use Rattle.layer.specs.Layer.{hash_by}
use Rattle.estimates.specs.Sums.{items_read}

-- where all counters are in range, those that the candidates' estimates read are
pub items-read : (d : Dims) (ws : List Item) (xs : List ℤ) → all_in xs ≡ true → items_read d xs ws ≡ true
unfolding items_read
items-read d [] xs a = refl
items-read d (w ∷ ws) xs a = both (all-cells d.cols (hash_by w) xs d.rows 0 a) (items-read d ws xs a)
