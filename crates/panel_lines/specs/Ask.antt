-- What a line may ask, and how that is written: the lines of the paper, and no other, are readable.
use Rattle.std.specs.Prelude.{List, [], ◌∷◌, ◌++◌, ◌≡◌, ℕ, ◌+◌, ◌*◌, ◌≤◌, ℤ, length}
use Rattle.text.specs.Words.{bytes_of}
use Rattle.text.specs.Decimals.{dec, Word}
use Rattle.text.specs.Signs.{signed_dec, SignedWord}
use Rattle.text.specs.Hex.{hex_digits}
use Rattle.panel_lines.specs.declared.line.Request.TheVariants.{Shape, Add, Show, Unreadable}
use Rattle.panel_lines.specs.Line.{longest_line, Reading, asked, read_of}

-- "pairs of halves (high, low)"
pub record Pair : Type 0 where
  pub high : ℕ
  pub low : ℕ

-- "Shape: heap, rows, cols, layers"; "Add (..): key, weight, bottom hash, then pairs"; "Show"
pub data Ask : Type 0 where
  shape : ℕ → ℕ → ℕ → ℕ → Ask
  add : ℕ → ℤ → ℕ → List Pair → Ask
  show : Ask

-- ` (HI LO)` for each pair, "in 16 hexadecimal digits"
unfoldable pub pairs_text : List Pair → List ℕ
pairs_text [] = []
pairs_text (p ∷ ps) = bytes_of " (" ++ (hex_digits 16 p.high ++ (32 ∷ (hex_digits 16 p.low ++ (41 ∷ pairs_text ps))))

-- `(shape HEAP ROWS COLS LAYERS)`, `(add KEY WEIGHT BOTTOM (HI LO) ..)`, `(show)`; 32 is a space, 41 the closing bracket
unfoldable pub ask_text : Ask → List ℕ
ask_text (shape h r c l) = bytes_of "(shape " ++ (dec h ++ (32 ∷ (dec r ++ (32 ∷ (dec c ++ (32 ∷ (dec l ++ (41 ∷ []))))))))
ask_text (add k w b ps) = bytes_of "(add " ++ (dec k ++ (32 ∷ (signed_dec w ++ (32 ∷ (hex_digits 16 b ++ (pairs_text ps ++ (41 ∷ [])))))))
ask_text show = bytes_of "(show)"

abbrev pub PairsIn : List Pair → Type 0
PairsIn [] = Unit {0}
PairsIn (p ∷ ps) = Word p.high × (Word p.low × PairsIn ps)

-- no number is "past 64 bits (weight signed, others unsigned)"
abbrev pub InRange : Ask → Type 0
InRange (shape h r c l) = Word h × (Word r × (Word c × Word l))
InRange (add k w b ps) = Word k × (SignedWord w × (Word b × PairsIn ps))
InRange show = Unit {0}

unfoldable pub pair_words : List Pair → List ℕ
pair_words [] = []
pair_words (p ∷ ps) = p.high ∷ (p.low ∷ pair_words ps)

-- how a request is handed on: the words of an `add` are its record
unfoldable pub reading_of : Ask → Reading
reading_of (shape h r c l) = asked (Shape h r c l)
reading_of (add k w b ps) = record { request = Add w (2 + 2 * length ps); words = k ∷ (b ∷ pair_words ps) }
reading_of show = asked Show

-- the line s is the writing of q, whose numbers are in range, in at most as many bytes as are read
pub record Writes (q : Ask) (s : List ℕ) : Type 0 where
  pub range : InRange q
  pub short : length s ≤ longest_line
  pub text : s ≡ ask_text q

abbrev pub Readable : List ℕ → Type 0
Readable s = (read_of s).request ≡ Unreadable → ⊥
