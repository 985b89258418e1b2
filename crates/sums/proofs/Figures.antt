-- Worked values, by computation. Assumes nothing.
use Prim.Native.Nat.{ℕ, zero, suc}
use mathlib.Core.Path.{◌≡◌, refl}
use mathlib.Core.Bool.{true}
use mathlib.Core.List.{List, [], ◌∷◌}
use lib.IntN.{pos, negsuc}
use lib.Ieee.{binary64, add, sub, mul, of_int, of_bits}
use Rattle.sums.specs.Entries.{Entry}
use Rattle.sums.specs.inner.Spaces.{entry}
use Rattle.sums.specs.Terms.{g_of, factor, counted, add_term, sum_over}
use Rattle.sums.specs.Layers.{g_sum, standard_sum}
use Rattle.sums.specs.Terminal.{ahead, rank_in, ranked, gather_one, gather_entries}
use Rattle.sums.specs.declared.G.TheVariants.{One}

-- key A (7) with bottom hash 0 at layer 0 alone, key B (8) with 2 at both; weight 0
own : ℕ → List Entry
own zero = entry 7 0 (pos 0) ∷ entry 8 2 (pos 0) ∷ []
own (suc l) = entry 8 2 (pos 0) ∷ []

two-keys : standard_sum One true own 2 ≡ of_int binary64 (pos 2)
unfolding own standard_sum g_sum sum_over add_term counted g_of factor add sub mul of_int of_bits
two-keys = refl

-- a key seen again keeps the deeper bottom hash and the greater count; then greater count, smaller bottom hash, smaller key
in_order : ranked (gather_entries (entry 1 5 (pos 3) ∷ entry 2 4 (pos 9) ∷ []) (entry 1 6 (pos 9) ∷ entry 3 4 (pos 9) ∷ entry 4 0 (negsuc 0) ∷ []))
    ≡ entry 2 4 (pos 9) ∷ entry 3 4 (pos 9) ∷ entry 1 5 (pos 9) ∷ entry 4 0 (negsuc 0) ∷ []
unfolding ranked rank_in ahead gather_entries gather_one
in_order = refl
