-- The tests of a call in their order, each with the number of the refusal that it stands for.
use Rattle.std.specs.Prelude.{ℕ, Bool, true, cond, not, ◌&&◌, List, [], ◌∷◌, ◌==◌}

-- "A refusal gives its number.": that of the first test that holds, 0 where none does
abbrev pub number : List (Bool × ℕ) → ℕ
number [] = 0
number (t ∷ ts) = cond t.0 t.1 (number ts)

-- no test has the number 0, which stands for no refusal
abbrev pub numbered : List (Bool × ℕ) → Bool
numbered [] = true
numbered (t ∷ ts) = not (t.1 == 0) && numbered ts
