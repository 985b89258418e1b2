-- The recursion over the layers, in floats.
use Rattle.std.specs.Prelude.{ℕ, zero, suc, ◌-◌, Bool, true, false, List, ℤ, pos, Float}
use Rattle.std.specs.Float.{binary64}
use Rattle.std.specs.Float.Ieee.{add, mul}
use Rattle.float64.specs.Values.{two}
use Rattle.sums.specs.Entries.{Entry}
use Rattle.sums.specs.Terms.{plus_zero, sum_over}
use Rattle.sums.specs.declared.G.{G}
use Rattle.sums.specs.declared.Rule.{Rule}

-- at layer l the sign is by bit l + 1; the last layer has no signs
abbrev pub rule_at : G → Bool → ℤ → Bool → ℕ → Rule
rule_at g every t last l = record { g = g; every = every; threshold = t; last = last; bit = suc l }

-- "The standard sum at the last layer is g summed over its candidates; at each layer l above, it is twice the sum below, plus g for each of l's candidates whose
-- bottom hash bit l + 1 is 0, less g for each where it is 1.": at layer l with k layers below it.
-- The thresholds and the candidates are given for each k and l.
unfoldable pub g_sum : G → Bool → (ℕ → ℕ → ℤ) → (ℕ → ℕ → List Entry) → ℕ → ℕ → Float
g_sum g every ts cs zero l = sum_over (rule_at g every (ts zero l) true l) plus_zero (cs zero l)
g_sum g every ts cs (suc k) l =
    add binary64 (mul binary64 two (g_sum g every ts cs k (suc l))) (sum_over (rule_at g every (ts (suc k) l) false l) plus_zero (cs (suc k) l))

-- standard mode: each layer's own candidates, and counts above 0
unfoldable pub standard_sum : G → Bool → (ℕ → List Entry) → ℕ → Float
standard_sum g every own layers = g_sum g every (λ k l. pos 0) (λ k l. own l) (layers - 1) 0
