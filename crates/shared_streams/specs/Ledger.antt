-- The books of a list of calls from the list alone: no header and no slice is asked.
-- "Each relay has a book, its stream, made from the calls' arguments and from whether each was accepted."
use Rattle.std.specs.Prelude.{ℕ, ◌*◌, ◌≡◌, Bool, true, false, cond, List, [], ◌∷◌, ◌++◌, map, length, get_or, set, replicate, ℤ, eqb, ltb}
use Rattle.words.specs.Tests.{number}
use Rattle.header.specs.declared.Shape.{Shape}
use Rattle.header.specs.declared.Scalars.{Scalars}
use Rattle.header.specs.Totals.{totals_tests}
use Rattle.header.specs.Header.{clash, begin_tests}
use Rattle.layout.specs.Outcomes.{Outcome, record_test}
use Rattle.univmon.specs.declared.Kind.{Kind}
use Rattle.univmon.specs.Updates.{mode_of}
use Rattle.shared_streams.specs.Books.{Update, Book, totals_of, book_mode}
use Rattle.shared_streams.specs.Feeds.{feed, join, names}
use Rattle.shared_streams.specs.Relays.{Feed, updating, Relay, Call}

-- ---- what a call is answered with, by books and arguments: the number of its refusal, 0 where "no refusal of these papers applies"

-- what a header with that book holds beside its layers
abbrev pub scalars_by : Shape → Book → Scalars
scalars_by sh b = record { shape = sh; totals = totals_of b; mode = book_mode b }

-- an update: 12 "record length wrong", then 5 "negative weight", 6 "mode mixed in update", 7 "weight would pass 2^52", 14 "updates would pass 2^52", as a header
-- judges them
abbrev pub feed_tests : Shape → Book → Kind → List ℕ → ℤ → List (Bool × ℕ)
feed_tests sh b k words w = record_test sh (length words) ∷ begin_tests (scalars_by sh b) w (mode_of k)

unfoldable pub feed_number : Shape → Book → Kind → List ℕ → ℤ → ℕ
feed_number sh b k words w = number (feed_tests sh b k words w)

-- "A shorter list is 16, last.": with a list of n words, where `least` are asked for and m is what the call is answered with but for its list
unfoldable pub list_number : ℕ → ℕ → ℕ → ℕ
list_number least n m = cond (eqb m 0) (cond (ltb n least) 16 0) m

-- the words of an update's list, and of a merge's
abbrev pub feed_places : Shape → ℕ
feed_places sh = 2 * sh.layers

abbrev pub join_places : Shape → ℕ
join_places sh = 4 * sh.heap_size * sh.layers

abbrev pub answered_with : Shape → Book → Feed → ℕ
answered_with sh b f = list_number (feed_places sh) (length f.list) (feed_number sh b f.kind f.words f.weight)

-- a merge of a second relay into a first, both of one shape: 6 "mode mixed in .. merge", 7 and 14
abbrev pub join_tests : Book → Book → List (Bool × ℕ)
join_tests a b = (clash (book_mode a) (book_mode b), 6) ∷ totals_tests (totals_of a) (totals_of b)

unfoldable pub join_number : Book → Book → ℕ
join_number a b = number (join_tests a b)

abbrev pub joined_with : Shape → Book → Book → List ℕ → ℕ
joined_with sh a b list = list_number (join_places sh) (length list) (join_number a b)

-- a call with that outcome is refused with n, which is not 0; or it is accepted, and n is 0
abbrev pub Answers : Outcome → ℕ → Type 0
Answers (Outcome.no m) n = (m ≡ n) × (n ≡ 0 → ⊥)
Answers (Outcome.yes s) n = n ≡ 0

-- ---- books

-- a relay's book, and whether it was merged into another
pub record Account : Type 0 where
  pub book : Book
  pub retired : Bool

-- "It starts empty."
abbrev pub opened : Account
opened = record { book = []; retired = false }

-- the account of a relay
abbrev pub account_of : Relay → Account
account_of r = record { book = r.book; retired = r.retired }

abbrev pub account_at : List Account → ℕ → Account
account_at xs i = get_or xs i opened

-- "An accepted update adds its kind, record and weight." and "A refused call changes no book.": n is what the call is answered with
abbrev pub with_entry : ℕ → Account → Update → Account
with_entry n a e = cond (eqb n 0) (record { book = a.book ++ (e ∷ []); retired = a.retired }) a

-- "An accepted merge puts the second's book behind the first's." and "retires the second"
abbrev pub united : ℕ → List Account → ℕ → ℕ → Account → Account → List Account
united n xs i j a b =
    cond (eqb n 0) (set (set xs j (record { book = b.book; retired = true })) i (record { book = a.book ++ b.book; retired = a.retired })) xs

unfoldable pub booked : Shape → List Account → Call → List Account
booked sh xs (feed i f) = set xs i (with_entry (answered_with sh (account_at xs i).book f) (account_at xs i) (updating.enter f))
booked sh xs (join i j list) = united (joined_with sh (account_at xs i).book (account_at xs j).book list) xs i j (account_at xs i) (account_at xs j)

-- who is retired
abbrev pub gone : List Account → List Bool
gone xs = map (λ (a : Account). a.retired) xs

-- a call that may not be listed changes nothing
abbrev pub book_step : Shape → List Account → Call → List Account
book_step sh xs c = cond (names (gone xs) c) (booked sh xs c) xs

-- the accounts after a list of calls; then those of n relays from the start
unfoldable pub ledger : Shape → List Account → List Call → List Account
ledger sh xs [] = xs
ledger sh xs (c ∷ cs) = ledger sh (book_step sh xs c) cs

abbrev pub books : Shape → ℕ → List Call → List Account
books sh n calls = ledger sh (replicate n opened) calls

-- ---- "all accepted updates of the list"

abbrev pub accepted_one : Shape → List Account → Call → Book
accepted_one sh xs (feed i f) = cond (eqb (answered_with sh (account_at xs i).book f) 0) (updating.enter f ∷ []) []
accepted_one sh xs (join i j list) = []

unfoldable pub accepted_all : Shape → List Account → List Call → Book
accepted_all sh xs [] = []
accepted_all sh xs (c ∷ cs) = cond (names (gone xs) c) (accepted_one sh xs c) [] ++ accepted_all sh (book_step sh xs c) cs
