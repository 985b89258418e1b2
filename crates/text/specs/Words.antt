-- Words, that is byte strings, and flags in a text. A text is a list of bytes; a place is the number of bytes before it.
use Rattle.std.specs.Prelude.{List, [], ◌∷◌, Bool, true, false, cond, ◌&&◌, ℕ, eqb}
use Prim.Native.String.{String}
use Rattle.text.specs.Letters.{each_letter}

-- the bytes of a quoted text
abbrev pub bytes_of : String → List ℕ
bytes_of s = each_letter [] (λ b bs. b ∷ bs) s

-- the word stands at the start
unfoldable pub is_prefix : List ℕ → List ℕ → Bool
is_prefix [] s = true
is_prefix (w ∷ ws) [] = false
is_prefix (w ∷ ws) (b ∷ bs) = eqb b w && is_prefix ws bs

-- "each layer's flag from layer 0, 1 for complete"
unfoldable pub flag_digit : Bool → ℕ
flag_digit f = cond f 49 48
