-- How a list tells what offers did: "A place is two words: 1 rescored, 2 seated, 3 displaced or 4 turned away, then the displaced key or 0".
use Rattle.std.specs.Prelude.{ℕ, zero, suc, List, [], ◌∷◌}
use Rattle.heap.specs.declared.Answer.{Answer}
use Rattle.heap.specs.declared.Answer.TheVariants.{Rescored, Seated, Displaced, TurnedAway}

abbrev pub code_of : Answer → ℕ
code_of Rescored = 1
code_of Seated = 2
code_of (Displaced k) = 3
code_of TurnedAway = 4

abbrev pub displaced_key : Answer → ℕ
displaced_key Rescored = 0
displaced_key Seated = 0
displaced_key (Displaced k) = k
displaced_key TurnedAway = 0

-- n places, the first of them for these answers in turn; "unused places are zeros"
unfoldable pub places : ℕ → List Answer → List ℕ
places zero xs = []
places (suc n) [] = 0 ∷ 0 ∷ places n []
places (suc n) (a ∷ xs) = code_of a ∷ displaced_key a ∷ places n xs
