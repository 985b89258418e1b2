-- "A checked state is restored exactly, and the reader accepts only text that the writer gives."
use Rattle.std.specs.Prelude.{◌≡◌, true, List, ℕ, ◌≤◌, ◌<◌, length, get_or, take}
use Rattle.std.proofs.lemmas.List.Edits.{sets}
use Rattle.words.specs.Num.{word_size}
use Rattle.header.specs.OneTier.{OneTiered}
use Rattle.layout.specs.Slices.{Lent, lengths_ok, view}
use Rattle.layout.specs.Outcomes.{left}
use Rattle.state_check.specs.Reached.{Passing}
use Rattle.state_text.specs.Pages.{text_of}
use Rattle.state_text.specs.Calls.{copied, write_call, read_call}

-- norms and entries are words: so it is for all that the code holds; the lists of the definitions hold any numbers
pub record Words (r : Lent) : Type 0 where
  pub norms : (k : ℕ) → get_or r.norms k 0 < word_size
  pub entries : (k : ℕ) → get_or r.entries k 0 < word_size

-- a state of one tier that passes the check, in a header and words as the code holds them
pub record Checked (r : Lent) : Type 0 where
  pub tier : OneTiered r.head.shape
  pub passing : Passing r
  pub words : Words r

-- slices of another state have the lengths of this one's shape
abbrev pub SameLengths : Lent → Lent → Type 0
SameLengths r q = lengths_ok r.head.shape (length q.counters) (length q.norms) (length q.entries) (length q.counts) ≡ true

-- "A checked state is restored exactly", header and all four slices, whatever the lent slices held
abbrev pub RestoredExactly : Type 0
RestoredExactly = (r q : Lent) → Checked r → SameLengths r q → read_call (text_of (view r)) q ≡ left 0 r

-- what was read has one tier and passes the check, and the text is that which the writer gives for it
pub record WrittenFor (t : List ℕ) (r : Lent) : Type 0 where
  pub tier : OneTiered r.head.shape
  pub passing : Passing r
  pub text : text_of (view r) ≡ t

-- "the reader accepts only text that the writer gives"
abbrev pub OnlyWritten : Type 0
OnlyWritten = (t : List ℕ) (q : Lent) → (read_call t q).refusal ≡ 0 → WrittenFor t (read_call t q).lends

-- two different checked states have different texts
abbrev pub TextsDiffer : Type 0
TextsDiffer = (r q : Lent) → Checked r → Checked q → text_of (view r) ≡ text_of (view q) → r ≡ q

-- ---- the same of the two calls, one after the other

-- "States carried home as text": what the writer left in its space, as many bytes as it answered, is read at home as the state that was written
abbrev pub CarriedHome : Type 0
CarriedHome = (r q : Lent) (out : List ℕ) → Checked r → SameLengths r q → (write_call r out).answer.refusal ≡ 0
    → read_call (take (write_call r out).answer.bytes (write_call r out).out) q ≡ left 0 r

-- and what was read is written again, into a space that has room for it, to the same bytes
abbrev pub WrittenAgain : Type 0
WrittenAgain = (t : List ℕ) (q : Lent) (out : List ℕ) → (read_call t q).refusal ≡ 0 → length t ≤ length out
    → write_call (read_call t q).lends out ≡ copied (record { refusal = 0; bytes = length t }) (sets out 0 t)
