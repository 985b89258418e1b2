-- The index of one layer's candidates, as 02 (W6) says it.
use Rattle.std.specs.Prelude.{ℕ, zero, suc, ◌+◌, ◌-◌, ◌*◌, ◌%◌, Bool, true, false, cond, not, ◌&&◌, List, length, get_or, set, replicate, ltb, leb, eqb, Option, Some, None}
use Rattle.words.specs.Num.{in_range}
use Rattle.heap_moves.specs.Cands.{Cand, no_cand, count_at}
use Rattle.heap_index.specs.declared.Lookup.{Lookup}
use Rattle.heap_index.specs.declared.Lookup.TheVariants.{Met, Vacant}

-- "a lent table of twice the heap size, rounded up to a power of two": the first number bounds the doublings; 11 are enough for 1,024
unfoldable pub round_up : ℕ → ℕ → ℕ → ℕ
round_up zero p n = p
round_up (suc f) p n = cond (leb n p) p (round_up f (2 * p) n)

abbrev pub index_length : ℕ → ℕ
index_length size = round_up 11 1 (2 * size)

-- "home place the key modulo its length"
abbrev pub home : ℕ → ℕ → ℕ
home m k = k % m

-- "next place after a collision, wrapping at the end"
unfoldable pub next_place : ℕ → ℕ → ℕ
next_place m p = cond (eqb (p + 1) m) 0 (p + 1)

-- how many steps of `next_place` lead from a to b
unfoldable pub dist : ℕ → ℕ → ℕ → ℕ
dist m a b = cond (leb a b) (b - a) (m - a + b)

-- "each place a word holding 0 if empty or else the entry's number from 0 plus 1": the word at a place
abbrev pub word : List ℕ → ℕ → ℕ
word xs p = get_or xs p 0

-- the key of the entry i, and of the entry that a place names
abbrev pub key_at : List Cand → ℕ → ℕ
key_at cs i = (get_or cs i no_cand).item.key

abbrev pub key_on : List ℕ → List Cand → ℕ → ℕ
key_on xs cs p = key_at cs (word xs p - 1)

-- of n candidates: the word names one of them, and that is in range
unfoldable pub is_name : ℕ → List Cand → ℕ → Bool
is_name n cs w = leb w n && in_range (count_at cs (w - 1))

-- A lookup of the key k from place p on, d places having been probed. "It is refused with 9 where such a candidate is out of range, such a
-- place names no candidate, a lookup meets neither the key nor an empty place." The first number bounds the places.
unfoldable pub look_from : ℕ → List ℕ → ℕ → List Cand → ℕ → ℕ → ℕ → Option Lookup
look_from zero xs n cs k p d = None
look_from (suc f) xs n cs k p d =
    cond (eqb (word xs p) 0) (Some (Vacant p (d + 1)))
    (cond (not (is_name n cs (word xs p))) None
    (cond (eqb (key_on xs cs p) k) (Some (Met p (d + 1)))
    (look_from f xs n cs k (next_place (length xs) p) (d + 1))))

-- "Each lookup reports its probes, equal to the places from home to the key or to the first empty place, both ends counted."
unfoldable pub look : List ℕ → ℕ → List Cand → ℕ → Option Lookup
look xs n cs k = look_from (length xs) xs n cs k (home (length xs) k) 0

-- a table after a step, and whether the step was not refused
pub record IndexStep : Type 0 where
  pub fine : Bool
  pub table : List ℕ

abbrev pub step_to : List ℕ → IndexStep
step_to xs = record { fine = true; table = xs }

abbrev pub no_step : List ℕ → IndexStep
no_step xs = record { fine = false; table = xs }

-- the place where a lookup ends
abbrev pub ends_at : Lookup → ℕ
ends_at (Met p d) = p
ends_at (Vacant p d) = p

-- a key comes in where its lookup ends, under its entry's number
abbrev pub insert_at : List ℕ → ℕ → Option Lookup → IndexStep
insert_at xs i (Some (Met p d)) = step_to (set xs p (suc i))
insert_at xs i (Some (Vacant p d)) = step_to (set xs p (suc i))
insert_at xs i None = no_step xs

unfoldable pub insert : List ℕ → ℕ → List Cand → ℕ → ℕ → IndexStep
insert xs n cs k i = insert_at xs i (look xs n cs k)

-- "Taking out a key closes the gap: up to the next empty place, each entry whose lookup passes the gap moves into it and leaves its own
-- place as the gap." The gap is at g, and p is the place that is looked at. The first number bounds the places.
unfoldable pub close : ℕ → List ℕ → ℕ → List Cand → ℕ → ℕ → IndexStep
close zero xs n cs g p = no_step xs
close (suc f) xs n cs g p =
    cond (eqb (word xs p) 0) (step_to xs)
    (cond (not (is_name n cs (word xs p))) (no_step xs)
    (cond (leb (dist (length xs) g p) (dist (length xs) (home (length xs) (key_on xs cs p)) p))
    (close f (set (set xs g (word xs p)) p 0) n cs p (next_place (length xs) p))
    (close f xs n cs g (next_place (length xs) p))))

-- "a key to be moved or taken out isn't found under its entry's number": the place where the key of entry i stands under i, or the table's length
abbrev pub under_by : List ℕ → ℕ → Option Lookup → ℕ
under_by xs i (Some (Met p d)) = cond (eqb (word xs p) (suc i)) p (length xs)
under_by xs i (Some (Vacant p d)) = length xs
under_by xs i None = length xs

unfoldable pub found_under : List ℕ → ℕ → List Cand → ℕ → ℕ
found_under xs n cs i = under_by xs i (look xs n cs (key_at cs i))

-- the key of entry i goes out
unfoldable pub remove_at : List ℕ → ℕ → List Cand → ℕ → IndexStep
remove_at xs n cs p =
    cond (ltb p (length xs)) (close (length xs) (set xs p 0) n cs p (next_place (length xs) p)) (no_step xs)

unfoldable pub remove : List ℕ → ℕ → List Cand → ℕ → IndexStep
remove xs n cs i = remove_at xs n cs (found_under xs n cs i)

-- "each swap first looks up its two keys, then exchanges their numbers": of the entries i and j
unfoldable pub exchange_at : List ℕ → ℕ → ℕ → ℕ → ℕ → IndexStep
exchange_at xs i j p q =
    cond (ltb p (length xs)) (cond (ltb q (length xs)) (step_to (set (set xs p (suc j)) q (suc i))) (no_step xs)) (no_step xs)

unfoldable pub exchange : List ℕ → ℕ → List Cand → ℕ → ℕ → IndexStep
exchange xs n cs i j = exchange_at xs i j (found_under xs n cs i) (found_under xs n cs j)

-- ---- the check: "The state check says no to an index that doesn't hold exactly its layer's candidates, each once and where its key's lookup ends."

-- each of k entries from i on is where its key's lookup ends
unfoldable pub entries_ok : ℕ → List ℕ → ℕ → List Cand → ℕ → Bool
entries_ok zero xs n cs i = true
entries_ok (suc k) xs n cs i = ltb (found_under xs n cs i) (length xs) && entries_ok k xs n cs (suc i)

-- a place is empty, or names a candidate whose key's lookup ends there
unfoldable pub place_ok : List ℕ → ℕ → List Cand → ℕ → Bool
place_ok xs n cs p = cond (eqb (word xs p) 0) true (leb (word xs p) n && eqb (found_under xs n cs (word xs p - 1)) p)

-- each of k places from p on
unfoldable pub places_ok : ℕ → List ℕ → ℕ → List Cand → ℕ → Bool
places_ok zero xs n cs p = true
places_ok (suc k) xs n cs p = place_ok xs n cs p && places_ok k xs n cs (suc p)

unfoldable pub index_ok : List ℕ → ℕ → List Cand → Bool
index_ok xs n cs = entries_ok n xs n cs 0 && places_ok (length xs) xs n cs 0

-- ---- "After a text is read the index is built in heap order, a key's second entry left out."

-- an entry comes in unless its key is met
abbrev pub enter_by : List ℕ → ℕ → Option Lookup → List ℕ
enter_by xs i (Some (Met p d)) = xs
enter_by xs i (Some (Vacant p d)) = set xs p (suc i)
enter_by xs i None = xs

-- k entries from i on, where the first i have come in
unfoldable pub enter_all : ℕ → List ℕ → List Cand → ℕ → List ℕ
enter_all zero xs cs i = xs
enter_all (suc k) xs cs i = enter_all k (enter_by xs i (look xs i cs (key_at cs i))) cs (suc i)

-- the index of n candidates in m places
unfoldable pub build : ℕ → ℕ → List Cand → List ℕ
build m n cs = enter_all n (replicate m 0) cs 0
