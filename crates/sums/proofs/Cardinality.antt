-- The float answer is exactly the number of keys. Assumes nothing.
use Prim.Native.Nat.{ℕ, suc, ◌+◌, ◌≤◌}
use mathlib.Core.Path.{◌≡◌, ap, ◌∙◌}
use mathlib.Core.Bool.{true}
use mathlib.Core.List.{List}
use lib.ListN.{length}
use lib.IntN.{ℤ, pos}
use lib.Ieee.{binary64, of_int}
use Rattle.sums.specs.Entries.{Entry}
use Rattle.sums.specs.Layers.{g_sum}
use Rattle.sums.specs.inner.Whole.{onward, entry_times}
use Rattle.sums.specs.declared.G.TheVariants.{One}
use Rattle.sums.proofs.Whole.{sum-whole}
use Rattle.sums.proofs.Keys.{keys-counted, same_length}

-- Cardinality. Where the list of each layer has just the keys of the one above it whose bit is 1, each as often, the float answer is exactly the number of the keys at layer l.
pub cardinality_exact : (ts : ℕ → ℕ → ℤ) (cs : ℕ → ℕ → List Entry) (k l : ℕ) → ((k l : ℕ) → length (cs k l) ≤ 1024) → k ≤ 40
    → ((j m : ℕ) → l ≤ m → m + suc j ≡ l + k → (key : ℕ) → entry_times key (onward (suc m) (cs (suc j) m)) ≡ entry_times key (cs j (suc m)))
    → g_sum One true ts cs k l ≡ of_int binary64 (pos (length (cs k l)))
cardinality_exact ts cs k l h b same =
    sum-whole ts cs k l h b ∙ ap (of_int binary64) (keys-counted cs k l (λ j m p q. same_length (onward (suc m) (cs (suc j) m)) (cs j (suc m)) (same j m p q)))
