-- Input and its lines: a byte 10 ends a line. proofs/Chunks.antt shows that chunks make up the same lines as the whole.
use Rattle.std.specs.Prelude.{List, [], ◌∷◌, ◌++◌, cond, ℕ, ◌+◌, eqb, ltb, length}
use Rattle.panel_lines.specs.Line.{longest_line}

-- ---- the whole input

-- the lines that a newline ends, where h stands before the text
unfoldable pub ended_lines : List ℕ → List ℕ → List (List ℕ)
ended_lines h [] = []
ended_lines h (b ∷ bs) = cond (eqb b 10) (h ∷ ended_lines [] bs) (ended_lines (h ++ (b ∷ [])) bs)

-- what is left after the last newline
unfoldable pub last_line : List ℕ → List ℕ → List ℕ
last_line h [] = h
last_line h (b ∷ bs) = cond (eqb b 10) (last_line [] bs) (last_line (h ++ (b ∷ [])) bs)

-- "The last line needs no newline": it is one if it has a byte
unfoldable pub some_last : List ℕ → List (List ℕ)
some_last [] = []
some_last (b ∷ bs) = (b ∷ bs) ∷ []

unfoldable pub lines : List ℕ → List (List ℕ)
lines bs = ended_lines [] bs ++ some_last (last_line [] bs)

-- ---- chunk by chunk

-- what is held of a line: one byte more than a readable line may have
abbrev pub most_held : ℕ
most_held = longest_line + 1

-- one more byte
unfoldable pub push : List ℕ → ℕ → List ℕ
push h b = cond (ltb (length h) most_held) (h ++ (b ∷ [])) h

-- the lines that end in a chunk, as they are held, and what is held after it
unfoldable pub chunk_lines : List ℕ → List ℕ → List (List ℕ)
chunk_lines h [] = []
chunk_lines h (b ∷ bs) = cond (eqb b 10) (h ∷ chunk_lines [] bs) (chunk_lines (push h b) bs)

unfoldable pub chunk_held : List ℕ → List ℕ → List ℕ
chunk_held h [] = h
chunk_held h (b ∷ bs) = cond (eqb b 10) (chunk_held [] bs) (chunk_held (push h b) bs)

-- the input that the chunks make up
unfoldable pub whole_of : List (List ℕ) → List ℕ
whole_of [] = []
whole_of (c ∷ cs) = c ++ whole_of cs
