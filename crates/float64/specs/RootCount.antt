-- How many digits of a root are worked out: "The root search stops at the first remainder of zero with only zeros left to bring down, instead of running through every digit. .. It also hands
-- back how many binary digits it worked out, from the root's first 1: the fewest after which it may stop so (none for zero), else 54." Twice: `root_count` works it out, and `IsCount` says what it
-- is. The law `count-is` shows that the first is the second.
use Rattle.std.specs.Prelude.{◌≡◌, ℕ, zero, suc, ◌-◌, ◌*◌, ◌/◌, ◌%◌, ◌^◌, ◌<◌, ◌≤◌, Bool, true, false, cond, ◌&&◌, ◌==◌, to_bits, Float}
use Rattle.std.specs.Float.{nan, inf, fin, binary64}
use Rattle.std.specs.Float.Ieee.Positive.{num, den}
use Rattle.float64.specs.Root.{isqrt, under, at_pattern}

-- ---- by a computation

-- The number n under the root is taken as 108 digits, of which each digit of the root brings down two. After i digits of the root: what was brought down, and what is left to bring down.
unfoldable pub brought : ℕ → ℕ → ℕ
brought n i = n / 4 ^ (54 - i)

unfoldable pub to_bring : ℕ → ℕ → ℕ
to_bring n i = n % 4 ^ (54 - i)

-- what the square of the root's first i digits leaves of what was brought down
unfoldable pub remainder : ℕ → ℕ → ℕ
unfolding isqrt brought
remainder n i = let r = isqrt i (brought n i) in brought n i - r * r

-- a "remainder of zero with only zeros left to bring down"
unfoldable pub stops : ℕ → ℕ → Bool
unfolding remainder to_bring
stops n i = remainder n i == 0 && to_bring n i == 0

-- the first of i to i + d after which the search may stop so, and i + d if it may after none before
unfoldable pub first_stop : ℕ → ℕ → ℕ → ℕ
unfolding stops
first_stop zero n i = i
first_stop (suc d) n i = let more = first_stop d n (suc i) in cond (stops n i) i more

-- how many of the 54 digits are worked out
unfoldable pub worked : ℕ → ℕ
unfolding first_stop
worked n = first_stop 54 n 0

-- of the root of d * 2 ^ (p - 2098), where d has 53 digits: the first of the 54 is the root's first 1
unfoldable pub count_at : ℕ → ℕ → ℕ
unfolding worked
count_at d p = worked (under d p)

-- of the root of the number above zero whose pattern is b
unfoldable pub count_bits : ℕ → ℕ
unfolding count_at at_pattern
count_bits b = at_pattern count_at b

-- "none for zero"; nor is a digit worked out where nothing is searched, of a NaN, of an infinity and of anything below zero
unfoldable pub root_count : Float → ℕ
unfolding count_bits
root_count nan = 0
root_count (inf s) = 0
root_count (fin s zero e) = 0
root_count (fin true (suc m) e) = 0
root_count (fin false (suc m) e) = count_bits (to_bits binary64 (fin false (suc m) e))

-- ---- by what it is

-- "the fewest .. else": k is the least of which P holds, and n if P holds of none below n
pub record FewestElse (n : ℕ) (P : ℕ → Type 0) (k : ℕ) : Type 0 where
  pub most : k ≤ n
  pub holds : k < n → P k
  pub none : (i : ℕ) → i < k → P i → ⊥

-- √x is a whole number of at most k binary digits, times a power of two: behind k digits the root has only zeros
abbrev pub EndsIn : Float → ℕ → Type 0
EndsIn x k = (r : ℕ) × (p : ℕ) × (q : ℕ) × (r < 2 ^ k) × (num x * 4 ^ p ≡ r * r * den x * 4 ^ q)

-- the 54th digit is the one that rounds
abbrev pub IsCount : Float → ℕ → Type 0
IsCount x k = FewestElse 54 (EndsIn x) k
