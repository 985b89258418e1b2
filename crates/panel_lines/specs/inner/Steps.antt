-- Chunks as the code goes through them, line by line.
use Rattle.panel_lines.specs.Split.{chunk_held, chunk_lines, most_held, push, some_last}
use Rattle.std.specs.Prelude.{take, List, [], ◌++◌, ◌∷◌, suc, ℕ, Bool, cond, false, true, eqb}

-- what is held of a line
abbrev pub held_of : List ℕ → List ℕ
held_of l = take most_held l

-- the bytes of the line that are held, the place in the chunk, and whether the line ended
pub record Stepped : Type 0 where
  pub bytes : List ℕ
  pub next : ℕ
  pub ended : Bool

abbrev pub stepped : List ℕ → ℕ → Bool → Stepped
stepped h i e = record { bytes = h; next = i; ended = e }

-- up to a newline or the chunk's end; the bytes h were held before, and the list starts at place i
unfoldable pub step_of : List ℕ → ℕ → List ℕ → Stepped
step_of h i [] = stepped h i false
step_of h i (b ∷ bs) = cond (eqb b 10) (stepped h (suc i) true) (step_of (push h b) (suc i) bs)

-- one chunk after another
unfoldable pub run_lines : List ℕ → List (List ℕ) → List (List ℕ)
run_lines h [] = []
run_lines h (c ∷ cs) = chunk_lines h c ++ run_lines (chunk_held h c) cs

unfoldable pub run_held : List ℕ → List (List ℕ) → List ℕ
run_held h [] = h
run_held h (c ∷ cs) = run_held (chunk_held h c) cs

-- all lines, the last one too
unfoldable pub lines_of_chunks : List (List ℕ) → List (List ℕ)
lines_of_chunks cs = run_lines [] cs ++ some_last (run_held [] cs)
