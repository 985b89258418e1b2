-- The cardinality as a whole number: the recursion with one for each candidate.
use Rattle.std.specs.Prelude.{ℕ, zero, suc, ◌/◌, ◌%◌, ◌^◌, Bool, cond, List, [], ◌∷◌, length, ℤ, pos, negsuc, ◌+ℤ◌, ◌*ℤ◌, eqb}
use Rattle.sums.specs.Entries.{Entry}

abbrev pub bit_off : ℕ → Entry → Bool
bit_off l e = eqb (e.bottom / 2 ^ l % 2) 0

-- one for each whose bottom hash bit l is 0, less one for each where it is 1
unfoldable pub bit_sum : ℕ → List Entry → ℤ
bit_sum l [] = pos 0
bit_sum l (e ∷ es) = cond (bit_off l e) (pos 1) (negsuc 0) +ℤ bit_sum l es

unfoldable pub key_sum : (ℕ → ℕ → List Entry) → ℕ → ℕ → ℤ
key_sum cs zero l = pos (length (cs zero l))
key_sum cs (suc k) l = pos 2 *ℤ key_sum cs k (suc l) +ℤ bit_sum (suc l) (cs (suc k) l)

-- those whose bit l is 1
unfoldable pub onward : ℕ → List Entry → List Entry
onward l [] = []
onward l (e ∷ es) = cond (bit_off l e) (onward l es) (e ∷ onward l es)

-- how often a key stands in a list
unfoldable pub entry_times : ℕ → List Entry → ℕ
entry_times k [] = 0
entry_times k (e ∷ es) = cond (eqb e.key k) (suc (entry_times k es)) (entry_times k es)
