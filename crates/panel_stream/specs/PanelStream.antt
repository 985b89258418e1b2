-- The program `panel` and its lines: the lines alone say what each is answered with and what book they make; what the program then holds is a relay's state as
-- that book says, and `show` shows it.
--
-- The definitions that it needs, beside those of this page: `answer_line`, `answers_of`, `shape_call`, `add_call`, `show_line`, `in_use`, `refusal_in`, `paper_refusal`, `run_of` (panel_step),
-- which the program's contracts cite; books, `feed_number` and `Claimed` (shared_streams); `panel_call` (estimates).
-- The proofs stand in proofs/PanelStream.antt, under the names `panel-stream` and `of_any_input`.
use Rattle.std.specs.Prelude.{ℕ, zero, suc, ◌*◌, ◌≤◌, ◌≡◌, Bool, true, false, cond, List, [], ◌∷◌, ◌++◌, length, ℤ, pos, eqb, Float}
use Rattle.std.specs.Float.{binary64}
use Rattle.std.specs.Float.Ieee.{to_bits, of_int}
use Rattle.matrix_storage.specs.Bits.{max_rows}
use Rattle.countsketch_l2_norm.specs.L2.{l2_of}
use Rattle.header.specs.declared.Shape.{Shape}
use Rattle.header.specs.Shape.{max_layers}
use Rattle.header.specs.OneTier.{one_tier}
use Rattle.header.specs.Header.{zero_header}
use Rattle.layout.specs.State.{rows_at}
use Rattle.layout.specs.Slices.{Lent}
use Rattle.univmon.specs.declared.Kind.TheVariants as kind
use Rattle.estimates.specs.Calls.{panel_call}
use Rattle.shared_streams.specs.Books.{Book, book_keys, norm_by, flag_by, weight_of, distinct, OneRecord}
use Rattle.shared_streams.specs.Relays.{Relay, update_by}
use Rattle.shared_streams.specs.Ledger.{feed_number}
use Rattle.shared_streams.specs.SharedStreams.{Claimed}
use Rattle.text.specs.Words.{is_prefix}
use Rattle.panel_lines.specs.declared.line.Request.{Request}
use Rattle.panel_lines.specs.declared.line.Request.TheVariants as ask
use Rattle.panel_lines.specs.Line.{read_of}
use Rattle.panel_lines.specs.Answers.{ok_text, refused_text, show_text}
use Rattle.panel_lines.specs.Split.{lines, whole_of}
use Rattle.panel_step.specs.Panel.{max_counters, max_candidates, in_use, refusal_in, paper_refusal, shape_call, add_call, show_line, answer_line, answers_of, run_of}

-- ---- what lines say: the shape that was last accepted, if one was, and the book since then

pub record Log : Type 0 where
  pub started : Bool
  pub shape : Shape
  pub book : Book

-- before the first line
abbrev pub blank : Log
blank = record { started = false; shape = one_tier 0 0 0 0; book = [] }

-- what an add is answered with: 13 "before a shape", then as an update by the book; "Add is a standard update"
unfoldable pub add_number : Log → List ℕ → ℤ → ℕ
add_number g words w = cond g.started (feed_number g.shape g.book kind.Standard words w) 13

-- "an accepted one starts afresh, a refused one changes nothing": n is what the shape is answered with
unfoldable pub log_shaped : ℕ → Log → Shape → Log
log_shaped n g sh = cond (eqb n 0) (record { started = true; shape = sh; book = [] }) g

-- an accepted add goes into the book
unfoldable pub log_added : ℕ → Log → List ℕ → ℤ → Log
log_added n g words w = cond (eqb n 0) (record { started = g.started; shape = g.shape; book = g.book ++ (update_by kind.Standard words w ∷ []) }) g

-- after one line, where f says what a shape is refused with
abbrev pub log_after : (Shape → ℕ) → Log → Request → List ℕ → Log
log_after f g (ask.Shape heap rows cols layers) words = log_shaped (f (one_tier heap rows cols layers)) g (one_tier heap rows cols layers)
log_after f g (ask.Add w n) words = log_added (add_number g words w) g words w
log_after f g ask.Show words = g
log_after f g ask.Unreadable words = g

-- after lines one after another
unfoldable pub log_of : (Shape → ℕ) → Log → List (List ℕ) → Log
log_of f g [] = g
log_of f g (l ∷ ls) = log_of f (log_after f g (read_of l).request (read_of l).words) ls

-- ---- "how often a relay was fed": the lines answered `(ok)` since the last shape answered so that were adds

abbrev pub is_ok : List ℕ → Bool
is_ok text = is_prefix (ok_text ++ (10 ∷ [])) text

-- after a line with that request and that answer
abbrev pub fed_after : ℕ → Request → List ℕ → ℕ
fed_after n (ask.Shape heap rows cols layers) text = cond (is_ok text) 0 n
fed_after n (ask.Add w k) text = cond (is_ok text) (suc n) n
fed_after n ask.Show text = n
fed_after n ask.Unreadable text = n

-- after lines one after another, answered from state r on
unfoldable pub times_fed : Lent → ℕ → List (List ℕ) → ℕ
times_fed r n [] = n
times_fed r n (l ∷ ls) = times_fed (answer_line r l).lends (fed_after n (read_of l).request (answer_line r l).text) ls

-- ---- what is claimed of a state with a shape

-- the parts in use as a relay
abbrev pub relay_in : Lent → Book → Relay
relay_in r b = record { lends = in_use r; book = b; retired = false }

abbrev pub bits : Float → ℕ
bits x = to_bits binary64 x

abbrev pub whole : ℕ → Float
whole n = of_int binary64 (pos n)

-- n values from the i-th on
unfoldable pub values_from : {A : Type 0} → (ℕ → A) → ℕ → ℕ → List A
values_from f zero i = []
values_from f (suc n) i = f i ∷ values_from f n (suc i)

-- L2 by the book: of layer 0's row norms
abbrev pub book_l2 : Shape → Book → Float
book_l2 sh b = l2_of (values_from (norm_by sh b 0) (rows_at sh 0) 0)

-- the layers' flags by the book
abbrev pub book_flags : Shape → Book → List Bool
book_flags sh b = values_from (flag_by sh b) sh.layers 0

-- where the relay was fed n times
pub record Shown (r : Lent) (sh : Shape) (b : Book) (n : ℕ) : Type 0 where
  -- all that the theorem on shared streams claims: counters, norms, weight, number of updates, flags and candidates by the book, in whatever order it was counted
  pub claimed : Claimed sh (relay_in r b)
  -- `show` is answered: L1 is the sum of the weights, L2 and flags are the book's, and U of `(updates U)` is how often the relay was fed
  pub line : show_line r ≡ show_text (bits (whole (weight_of b))) (bits (book_l2 sh b)) (bits (panel_call (in_use r)).cardinality) (book_flags sh b) n
  -- that is the book's length
  pub updates : n ≡ length b
  -- its third number is exactly the number of distinct keys, if they are at most heap size and each has one record
  pub keys : OneRecord b → distinct (book_keys b) ≤ sh.heap_size → (panel_call (in_use r)).cardinality ≡ whole (distinct (book_keys b))

-- ---- the theorem

-- what a next line is answered with, where f says what a shape is refused with, g what the lines said, and n how often the relay was fed; an unreadable one is 13
-- by itself
pub record NextLine (f : Shape → ℕ) (r : Lent) (g : Log) (n : ℕ) : Type 0 where
  -- a shape: 1 to 4, or 0
  pub shape : (sh : Shape) → (shape_call r sh).refusal ≡ f sh
  -- an add: 13 before a shape; then 12, 5, 7, 14, or 0. Never 6 (`alike`): all adds are of one kind
  pub add : (words : List ℕ) (w : ℤ) → (add_call r words w).refusal ≡ add_number g words w
  pub alike : (words : List ℕ) (w : ℤ) → add_number g words w ≡ 6 → ⊥
  -- a show: 13, or what the book says
  pub early : g.started ≡ false → show_line r ≡ refused_text 13
  pub show : g.started ≡ true → Shown r g.shape g.book n

-- from the header that the program starts with, in slices of any lengths, after any lines
abbrev pub Theorem : Type 0
Theorem = (r : Lent) → r.head ≡ zero_header → (ls : List (List ℕ)) → NextLine (refusal_in r) (answers_of r ls).lends (log_of (refusal_in r) blank ls) (times_fed r 0 ls)

-- the program's own header and slices; to a shape's own refusals they add only "Above 4,096 counters or 512 candidates over all layers it answers 4."
pub record Own (r : Lent) : Type 0 where
  pub head : r.head ≡ zero_header
  pub counters : length r.counters ≡ max_counters
  pub norms : length r.norms ≡ 2 * max_layers * max_rows
  pub entries : length r.entries ≡ 4 * max_candidates
  pub counts : length r.counts ≡ max_candidates

-- of any input, in whatever chunks it is read
abbrev pub Corollary : Type 0
Corollary = (r : Lent) → Own r → (cs : List (List ℕ)) → NextLine paper_refusal (run_of r [] cs).lends (log_of paper_refusal blank (lines (whole_of cs))) (times_fed r 0 (lines (whole_of cs)))
