-- The sums over candidates, in floats, in the order of the operations.
use Rattle.std.specs.Prelude.{ℕ, ◌/◌, ◌%◌, ◌^◌, Bool, cond, ◌||◌, List, [], ◌∷◌, ℤ, pos, Float}
use Rattle.std.specs.Int.Signed.{lt_z}
use Rattle.std.specs.Float.{binary64}
use Rattle.std.specs.Float.Ieee.{add, sub, mul, of_int, of_bits}
use Rattle.float64.specs.Values.{two}
use Rattle.sums.specs.Entries.{Entry}
use Rattle.sums.specs.declared.G.{G}
use Rattle.sums.specs.declared.G.TheVariants.{One, Value, Square}
use Rattle.sums.specs.declared.Rule.{Rule}

-- +0.0: "An empty sum is +0.0 here"
abbrev pub plus_zero : Float
plus_zero = of_bits binary64 0

abbrev pub one : Float
one = of_bits binary64 0x3ff0_0000_0000_0000

-- "Closures `g` become a choice of one, value or square.": g of a count
unfoldable pub g_of : G → ℤ → Float
g_of One c = one
g_of Value c = of_int binary64 c
g_of Square c = mul binary64 (of_int binary64 c) (of_int binary64 c)

-- plus or minus one, as the Rust works it out: 1.0 - 2.0 times bit l of a bottom hash
unfoldable pub factor : ℕ → ℕ → Float
factor b l = sub binary64 one (mul binary64 two (of_int binary64 (pos (b / 2 ^ l % 2))))

-- "With `count_every_key` no candidate is left out for its count"; without it those at or below the threshold are
unfoldable pub counted : Bool → ℤ → ℤ → Bool
counted every t c = every || lt_z t c

-- the sum so far, with one candidate more
unfoldable pub add_term : Rule → Float → ℕ → ℤ → Float
add_term r acc b c =
    cond (counted r.every r.threshold c)
    (cond r.last (add binary64 acc (g_of r.g c)) (add binary64 acc (mul binary64 (factor b r.bit) (g_of r.g c))))
    acc

-- the sum so far, with all of a list
unfoldable pub sum_over : Rule → Float → List Entry → Float
sum_over r acc [] = acc
sum_over r acc (e ∷ es) = sum_over r (add_term r acc e.bottom e.count) es
