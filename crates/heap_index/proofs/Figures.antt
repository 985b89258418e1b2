-- A few tables, computed.
use mathlib.Core.Path.{◌≡◌, refl}
use mathlib.Core.Bool.{true, false}
use mathlib.Core.List.{[], ◌∷◌}
use Prim.Native.Nat.{ℕ}
use lib.IntN.{pos}
use Rattle.std.proofs.Common.{Some, None}
use Rattle.words.specs.Num.{in_range}
use Rattle.heap_moves.specs.Cands.{Cand}
use Rattle.heap_index.specs.declared.Lookup.TheVariants.{Met, Vacant}
use Rattle.heap_index.specs.Index.{round_up, index_length, next_place, dist, is_name, look_from, look, close, found_under, remove_at, remove, exchange_at, exchange, entries_ok, place_ok, places_ok, index_ok, enter_all, build, step_to, no_step}

cand : ℕ → Cand
cand k = record { item = record { key = k; bottom = 0; high = 0; low = 0 }; count = pos 5 }

lengths : index_length 1 ∷ index_length 3 ∷ index_length 4 ∷ index_length 1000 ∷ index_length 1024 ∷ [] ≡ 2 ∷ 8 ∷ 8 ∷ 2048 ∷ 2048 ∷ []
unfolding round_up
lengths = refl

-- keys 3, 7 and 4 in four places: 7 collides with 3 and wraps, 4 comes after it
built : build 4 3 (cand 3 ∷ cand 7 ∷ cand 4 ∷ []) ≡ 2 ∷ 3 ∷ 0 ∷ 1 ∷ []
unfolding cand build enter_all look look_from is_name next_place in_range
built = refl

-- the probes of 4, and of a key that is not there
probed : look (2 ∷ 3 ∷ 0 ∷ 1 ∷ []) 3 (cand 3 ∷ cand 7 ∷ cand 4 ∷ []) 4 ≡ Some (Met 1 2)
unfolding cand look look_from is_name next_place in_range
probed = refl

missed : look (2 ∷ 3 ∷ 0 ∷ 1 ∷ []) 3 (cand 3 ∷ cand 7 ∷ cand 4 ∷ []) 11 ≡ Some (Vacant 2 4)
unfolding cand look look_from is_name next_place in_range
missed = refl

-- a place that names no candidate, and a table with no empty place
strayed : look (9 ∷ 3 ∷ 0 ∷ 1 ∷ []) 3 (cand 3 ∷ cand 7 ∷ cand 4 ∷ []) 11 ≡ None
unfolding cand look look_from is_name next_place in_range
strayed = refl

filled : look (2 ∷ 3 ∷ 3 ∷ 1 ∷ []) 3 (cand 3 ∷ cand 7 ∷ cand 4 ∷ []) 11 ≡ None
unfolding cand look look_from is_name next_place in_range
filled = refl

-- 3 goes out: 7 passes the gap and moves into it, then 4 moves to where 7 was, its home
closed : remove (2 ∷ 3 ∷ 0 ∷ 1 ∷ []) 3 (cand 3 ∷ cand 7 ∷ cand 4 ∷ []) 0 ≡ step_to (3 ∷ 0 ∷ 0 ∷ 2 ∷ [])
unfolding cand remove remove_at found_under close look look_from is_name next_place dist in_range
closed = refl

-- 7 goes out: 4 moves into the gap, 3 stays
closed_last : remove (2 ∷ 3 ∷ 0 ∷ 1 ∷ []) 3 (cand 3 ∷ cand 7 ∷ cand 4 ∷ []) 1 ≡ step_to (3 ∷ 0 ∷ 0 ∷ 1 ∷ [])
unfolding cand remove remove_at found_under close look look_from is_name next_place dist in_range
closed_last = refl

-- a key that is not found under its entry's number
misnumbered : remove (2 ∷ 3 ∷ 0 ∷ 1 ∷ []) 3 (cand 3 ∷ cand 3 ∷ cand 4 ∷ []) 1 ≡ no_step (2 ∷ 3 ∷ 0 ∷ 1 ∷ [])
unfolding cand remove remove_at found_under close look look_from is_name next_place dist in_range
misnumbered = refl

exchanged : exchange (2 ∷ 3 ∷ 0 ∷ 1 ∷ []) 3 (cand 3 ∷ cand 7 ∷ cand 4 ∷ []) 0 2 ≡ step_to (2 ∷ 1 ∷ 0 ∷ 3 ∷ [])
unfolding cand exchange exchange_at found_under look look_from is_name next_place in_range
exchanged = refl

checked : index_ok (2 ∷ 3 ∷ 0 ∷ 1 ∷ []) 3 (cand 3 ∷ cand 7 ∷ cand 4 ∷ []) ≡ true
unfolding cand index_ok entries_ok place_ok places_ok found_under look look_from is_name next_place in_range
checked = refl

-- a second place for an entry, and an entry beyond an empty place
twice : index_ok (2 ∷ 3 ∷ 2 ∷ 1 ∷ []) 3 (cand 3 ∷ cand 7 ∷ cand 4 ∷ []) ≡ false
unfolding cand index_ok entries_ok place_ok places_ok found_under look look_from is_name next_place in_range
twice = refl

beyond : index_ok (2 ∷ 0 ∷ 3 ∷ 1 ∷ []) 3 (cand 3 ∷ cand 7 ∷ cand 4 ∷ []) ≡ false
unfolding cand index_ok entries_ok place_ok places_ok found_under look look_from is_name next_place in_range
beyond = refl

-- a key's second entry is left out
once : build 4 3 (cand 3 ∷ cand 3 ∷ cand 4 ∷ []) ≡ 3 ∷ 0 ∷ 0 ∷ 1 ∷ []
unfolding cand build enter_all look look_from is_name next_place in_range
once = refl
