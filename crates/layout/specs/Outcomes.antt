-- What a call on a lent state answers, and what it leaves of header and slices.
use Rattle.std.specs.Prelude.{ℕ, Bool, cond, not, List, [], ◌∷◌, ◌++◌, length, eqb}
use Rattle.header.specs.declared.Shape.{Shape}
use Rattle.header.specs.declared.Header.{Header}
use Rattle.header.specs.Header.{header_ok}
use Rattle.layout.specs.Records.{record_length}
use Rattle.layout.specs.Slices.{Lent, lengths_ok}

-- a refusal's number, or the header and slices after an accepted call
pub data Outcome : Type 0 where
  no : ℕ → Outcome
  yes : Lent → Outcome

-- the first test that holds refuses with its number
abbrev pub judge : List (Bool × ℕ) → Lent → Outcome
judge [] r = Outcome.yes r
judge (t ∷ ts) r = cond t.0 (Outcome.no t.1) (judge ts r)

-- the number that is answered, 0 for none, and what is left: "Header and slices remain unchanged" on a refusal
pub record Left : Type 0 where
  pub refusal : ℕ
  pub lends : Lent

abbrev pub left : ℕ → Lent → Left
left n r = record { refusal = n; lends = r }

abbrev pub left_by : Lent → Outcome → Left
left_by r (Outcome.no n) = left n r
left_by r (Outcome.yes t) = left 0 t

-- what a call leaves
abbrev pub left_after : (Lent → Outcome) → Lent → Left
left_after f r = left_by r (f r)

-- ---- the first tests of a call: "9 for lengths and headers, 12"

-- 9 "wrong slice length; header out of range", by the lengths of the slices
abbrev pub size_tests : Header → ℕ → ℕ → ℕ → ℕ → List (Bool × ℕ)
size_tests h xs ws es ns = (not (header_ok h), 9) ∷ (not (lengths_ok h.shape xs ws es ns), 9) ∷ []

abbrev pub lent_tests : Lent → List (Bool × ℕ)
lent_tests r = size_tests r.head (length r.counters) (length r.norms) (length r.entries) (length r.counts)

-- 12 "record length wrong", of n words
abbrev pub record_test : Shape → ℕ → Bool × ℕ
record_test sh n = (not (eqb n (record_length sh.layers)), 12)

-- header, lengths and record
abbrev pub record_tests : Lent → List ℕ → List (Bool × ℕ)
record_tests r words = lent_tests r ++ (record_test r.head.shape (length words) ∷ [])
