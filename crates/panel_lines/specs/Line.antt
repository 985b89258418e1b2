-- How a line is read: what it asks, by places in the whole line. proofs/Readable.antt shows that a line is
-- read exactly if it is the writing of a request (specs/Ask.antt).
use Rattle.std.specs.Prelude.{List, [], ◌∷◌, Bool, true, cond, not, ◌&&◌, ℕ, zero, suc, ◌+◌, ◌-◌, ◌*◌, ◌/◌, ◌%◌, eqb, ltb, leb, ℤ, length, get_or, Option, None, Some}
use Rattle.text.specs.Words.{bytes_of, is_prefix}
use Rattle.text.specs.Decimals.{Num, field_at}
use Rattle.text.specs.Signs.{Int, int_at}
use Rattle.text.specs.Hex.{hex_ok_at, hex_at}
use Rattle.panel_lines.specs.declared.line.Request.{Request}
use Rattle.panel_lines.specs.declared.line.Request.TheVariants.{Shape, Add, Show, Unreadable}

-- "A line above 1,024 bytes, its newline not counted, is unreadable."
abbrev pub longest_line : ℕ
longest_line = 1024

-- the most words that such a line spells: two, and two for each pair of 36 bytes; an `add` without its pairs has 24 bytes at least (law `add-few`)
abbrev pub line_words : ℕ
line_words = 2 + 2 * ((longest_line - 24) / 36)

-- what a line asks, and the words of an `add`: "a record is key, bottom hash (..), then high and low half"
pub record Reading : Type 0 where
  pub request : Request
  pub words : List ℕ

abbrev pub asked : Request → Reading
asked r = record { request = r; words = [] }

abbrev pub unreadable : Reading
unreadable = asked Unreadable

abbrev pub shape_word : List ℕ
shape_word = bytes_of "(shape "

abbrev pub add_word : List ℕ
add_word = bytes_of "(add "

abbrev pub show_word : List ℕ
show_word = bytes_of "(show)"

-- ---- shape: "heap, rows, cols, layers"

-- goes on with a number and the place past it
abbrev pub then_num : Num → (ℕ → ℕ → Reading) → Reading
then_num (Some p) next = next p.0 p.1
then_num None next = unreadable

abbrev pub then_int : Int → (ℤ → ℕ → Reading) → Reading
then_int (Some p) next = next p.0 p.1
then_int None next = unreadable

abbrev pub then_tail : Option ℕ → (ℕ → Reading) → Reading
then_tail (Some n) next = next n
then_tail None next = unreadable

unfoldable pub read_shape : List ℕ → Reading
read_shape s =
    then_num (field_at s 7 32) (λ heap i.
    then_num (field_at s i 32) (λ rows j.
    then_num (field_at s j 32) (λ cols k.
    then_num (field_at s k 41) (λ layers l.
    cond (eqb l (length s)) (asked (Shape heap rows cols layers)) unreadable))))

-- ---- add: "key, weight, bottom hash, then pairs of halves (high, low) for the layers from 0"

-- ` (HI LO)` stands at i
unfoldable pub pair_ok_at : List ℕ → ℕ → Bool
pair_ok_at s i =
    eqb (get_or s i 0) 32
    && (eqb (get_or s (i + 1) 0) 40
    && (hex_ok_at s (i + 2)
    && (eqb (get_or s (i + 18) 0) 32
    && (hex_ok_at s (i + 19)
    && eqb (get_or s (i + 35) 0) 41))))

-- n pairs stand from i on
unfoldable pub all_pairs : List ℕ → ℕ → ℕ → Bool
all_pairs s i zero = true
all_pairs s i (suc n) = pair_ok_at s i && all_pairs s (i + 36) n

-- pairs from i on, then a bracket that ends the line
unfoldable pub tail_at : List ℕ → ℕ → Option ℕ
tail_at s i =
    cond (leb (length s) i) None
    (cond (not (eqb ((length s - i - 1) % 36) 0)) None
    (cond (not (all_pairs s i ((length s - i - 1) / 36))) None
    (cond (not (eqb (get_or s (length s - 1) 0) 41)) None
    (Some ((length s - i - 1) / 36)))))

-- the halves of n pairs from i on
unfoldable pub halves : List ℕ → ℕ → ℕ → List ℕ
halves s i zero = []
halves s i (suc n) = hex_at s (i + 2) ∷ (hex_at s (i + 19) ∷ halves s (i + 36) n)

unfoldable pub read_add : List ℕ → Reading
read_add s =
    then_num (field_at s 5 32) (λ key i.
    then_int (int_at s i 32) (λ weight j.
    cond (not (hex_ok_at s j)) unreadable
    (then_tail (tail_at s (j + 16)) (λ n.
    record { request = Add weight (2 + 2 * n); words = key ∷ (hex_at s j ∷ halves s (j + 16) n) }))))

-- ---- a line

unfoldable pub read_of : List ℕ → Reading
read_of s =
    cond (ltb longest_line (length s)) unreadable
    (cond (is_prefix shape_word s) (read_shape s)
    (cond (is_prefix add_word s) (read_add s)
    (cond (not (eqb (length s) 6)) unreadable
    (cond (is_prefix show_word s) (asked Show) unreadable))))
