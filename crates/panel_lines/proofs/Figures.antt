-- The paper's sample lines and some others, worked out from the definitions: rows of one computed check.
use Prim.Native.Nat.{ℕ, ◌^◌}
use Prim.Native.String.{String}
use mathlib.Core.Bool.{Bool, true, false, ◌&&◌}
use mathlib.Core.List.{List, [], ◌∷◌, map}
use lib.Dec.{T, eqb}
use lib.IntN.{pos, negsuc}
use lib.Signed.{le_z}
use Rattle.text.specs.Words.{bytes_of, is_prefix, flag_digit}
use Rattle.text.specs.Decimals.{is_digit, num_from, dec_from, stopped, field_at, dec_in, dec}
use Rattle.text.specs.Signs.{signed_dec, negated, unsigned, int_at}
use Rattle.text.specs.Hex.{hex_glyph, hex_digits, is_hex, nibble_of, hex_ok, hex_from}
use Rattle.panel_lines.specs.declared.line.Request.{Request}
use Rattle.panel_lines.specs.declared.line.Request.TheVariants.{Shape, Add, Show, Unreadable}
use Rattle.panel_lines.specs.Line.{read_shape, pair_ok_at, all_pairs, tail_at, halves, read_add, read_of}
use Rattle.panel_lines.specs.Ask.{Ask, shape, add, show, Pair, pairs_text, pair_words, ask_text, reading_of}
use Rattle.panel_lines.specs.Answers.{ok_text, refused_text, flags_text, updates_text, show_text}
use Rattle.panel_lines.specs.Split.{chunk_lines, chunk_held, push, whole_of, lines, ended_lines, last_line, some_last}
use Rattle.panel_lines.specs.inner.Steps.{lines_of_chunks, run_lines, run_held}

unfoldable pub same : List ℕ → List ℕ → Bool
same [] [] = true
same [] (y ∷ ys) = false
same (x ∷ xs) [] = false
same (x ∷ xs) (y ∷ ys) = eqb x y && same xs ys

unfoldable pub same_request : Request → Request → Bool
same_request (Shape a b c d) (Shape e f g h) = eqb a e && (eqb b f && (eqb c g && eqb d h))
same_request (Shape a b c d) (Add w n) = false
same_request (Shape a b c d) Show = false
same_request (Shape a b c d) Unreadable = false
same_request (Add w n) (Shape a b c d) = false
same_request (Add w n) (Add v m) = le_z w v && (le_z v w && eqb n m)
same_request (Add w n) Show = false
same_request (Add w n) Unreadable = false
same_request Show (Shape a b c d) = false
same_request Show (Add w n) = false
same_request Show Show = true
same_request Show Unreadable = false
same_request Unreadable (Shape a b c d) = false
same_request Unreadable (Add w n) = false
same_request Unreadable Show = false
same_request Unreadable Unreadable = true

-- a line is read as a request and is its writing; a line is unreadable; a text is an answer; chunks make up lines
pub data Row : Type 0 where
  asks : String → Ask → Row
  refused : String → Row
  answer : String → List ℕ → Row
  cut : List String → List String → Row

unfoldable pub same_lines : List (List ℕ) → List String → Bool
unfolding same
same_lines [] [] = true
same_lines [] (y ∷ ys) = false
same_lines (x ∷ xs) [] = false
same_lines (x ∷ xs) (y ∷ ys) = same x (bytes_of y) && same_lines xs ys

unfoldable pub right : Row → Bool
unfolding same same_request same_lines
right (asks s q) =
    same_request (read_of (bytes_of s)).request (reading_of q).request
    && (same (read_of (bytes_of s)).words (reading_of q).words
    && same (bytes_of s) (ask_text q))
right (refused s) = same_request (read_of (bytes_of s)).request Unreadable
right (answer s t) = same (bytes_of s) t
right (cut cs ls) = same_lines (lines_of_chunks (map bytes_of cs)) ls && same_lines (lines (whole_of (map bytes_of cs))) ls

unfoldable pub all_right : List Row → Bool
unfolding right
all_right [] = true
all_right (x ∷ xs) = right x && all_right xs

pair : ℕ → ℕ → Pair
pair h l = record { high = h; low = l }

unfoldable pub rows : List Row
unfolding pair
rows =
    -- the sample's input
    asks "(shape 2 2 4 2)" (shape 2 2 4 2)
    ∷ asks "(add 7 5 0000000000000000 (8000000000000000 0000000000000006) (0000000000000000 0000000000000000))" (add 7 (pos 5) 0 (pair 0x8000000000000000 6 ∷ (pair 0 0 ∷ [])))
    ∷ asks "(show)" show
    -- its output
    ∷ answer "(ok)" ok_text
    ∷ answer "(show (l1 4014000000000000) (l2 4014000000000000) (keys 3FF0000000000000) (flags 1 1) (updates 1))" (show_text 0x4014000000000000 0x4014000000000000 0x3FF0000000000000 (true ∷ (true ∷ [])) 1)
    -- of the most updates
    ∷ answer "(show (l1 0000000000000000) (l2 0000000000000000) (keys 0000000000000000) (flags 0) (updates 4503599627370496))" (show_text 0 0 0 (false ∷ []) (2 ^ 52))
    ∷ answer "(refused 13)" (refused_text 13)
    -- "program line unreadable (..) `(ad`"
    ∷ refused "(ad"
    -- the greatest and the least numbers
    ∷ asks "(shape 18446744073709551615 0 0 0)" (shape 0xFFFFFFFFFFFFFFFF 0 0 0)
    ∷ refused "(shape 18446744073709551616 0 0 0)"
    ∷ asks "(add 0 -9223372036854775808 FFFFFFFFFFFFFFFF)" (add 0 (negsuc 0x7FFFFFFFFFFFFFFF) 0xFFFFFFFFFFFFFFFF [])
    ∷ refused "(add 0 -9223372036854775809 FFFFFFFFFFFFFFFF)"
    ∷ refused "(add 0 9223372036854775808 FFFFFFFFFFFFFFFF)"
    -- leading zeros, −0, small letters, spacing, nothing
    ∷ refused "(shape 02 2 4 2)"
    ∷ refused "(add 7 -0 0000000000000000)"
    ∷ refused "(add 7 5 00000000000000af)"
    ∷ refused "(shape  2 2 4 2)"
    ∷ refused "(show) "
    ∷ refused ""
    -- a line across chunks, an empty one, a last one without newline; no input
    ∷ cut ("(sh" ∷ ("ow)\n\n(sho" ∷ ("w)" ∷ []))) ("(show)" ∷ ("" ∷ ("(show)" ∷ [])))
    ∷ cut ("(show)\n" ∷ []) ("(show)" ∷ [])
    ∷ cut ("" ∷ []) []
    ∷ []

pub figures : T (all_right rows)
unfolding all_right rows read_of read_shape read_add tail_at all_pairs pair_ok_at halves field_at stopped dec_from num_from is_digit int_at negated unsigned signed_dec dec dec_in hex_digits hex_glyph hex_ok hex_from is_hex nibble_of is_prefix ask_text pairs_text pair_words reading_of refused_text show_text updates_text flags_text flag_digit lines_of_chunks run_lines run_held chunk_lines chunk_held push whole_of lines ended_lines last_line some_last
figures = tt
