-- The heap's moves with the index kept: each is the walking move with the exchanges along its path.
use Rattle.std.specs.Prelude.{ℕ, zero, suc, ◌+◌, ◌*◌, Bool, true, false, cond, not, List, ltb, eqb}
use Rattle.words.specs.Num.{in_range}
use Rattle.heap_moves.specs.Cands.{Cand, count_at, smaller, swapped, parent, lower, stays}
use Rattle.heap_index.specs.Index.{exchange}

-- one layer's candidates and its index after moves, and whether none of them was refused
pub record IndexedCands : Type 0 where
  pub fine : Bool
  pub cands : List Cand
  pub index : List ℕ

abbrev pub moved_to : List Cand → List ℕ → IndexedCands
moved_to cs xs = record { fine = true; cands = cs; index = xs }

abbrev pub not_moved : List Cand → List ℕ → IndexedCands
not_moved cs xs = record { fine = false; cands = cs; index = xs }

-- "such a candidate is out of range": one of the n that is there is in range
unfoldable pub child_in : ℕ → List Cand → ℕ → Bool
child_in n cs j = cond (ltb j n) (in_range (count_at cs j)) true

-- "each swap first looks up its two keys, then exchanges their numbers"
abbrev pub swap_in : ℕ → List ℕ → List Cand → ℕ → ℕ → IndexedCands
swap_in n xs cs i j = record { fine = (exchange xs n cs i j).fine; cands = cond (exchange xs n cs i j).fine (swapped cs i j) cs; index = (exchange xs n cs i j).table }

-- `up` with the index: the entry at i, of n, moves up while it is smaller than its parent
unfoldable pub climb : ℕ → ℕ → List ℕ → List Cand → ℕ → IndexedCands
climb zero n xs cs i = moved_to cs xs
climb (suc k) n xs cs i =
    cond (eqb i 0) (moved_to cs xs)
    (cond (not (in_range (count_at cs (parent i)))) (not_moved cs xs)
    (cond (not (smaller cs i (parent i))) (moved_to cs xs)
    (cond (not (swap_in n xs cs (parent i) i).fine) (swap_in n xs cs (parent i) i)
    (climb k n (swap_in n xs cs (parent i) i).index (swap_in n xs cs (parent i) i).cands (parent i)))))

-- `down` with the index: the entry at i moves down while a child is smaller
unfoldable pub sink : ℕ → ℕ → List ℕ → List Cand → ℕ → IndexedCands
sink zero n xs cs i = moved_to cs xs
sink (suc k) n xs cs i =
    cond (not (child_in n cs (2 * i + 1))) (not_moved cs xs)
    (cond (not (child_in n cs (2 * i + 2))) (not_moved cs xs)
    (cond (stays n cs i) (moved_to cs xs)
    (cond (not (swap_in n xs cs i (lower n cs i)).fine) (swap_in n xs cs i (lower n cs i))
    (sink k n (swap_in n xs cs i (lower n cs i)).index (swap_in n xs cs i (lower n cs i)).cands (lower n cs i)))))

-- `update_at` with the index: the entry at i moves down or, if it stays, up
unfoldable pub resettle : ℕ → List ℕ → List Cand → ℕ → IndexedCands
resettle n xs cs i =
    cond (not (child_in n cs (2 * i + 1))) (not_moved cs xs)
    (cond (not (child_in n cs (2 * i + 2))) (not_moved cs xs)
    (cond (stays n cs i) (climb i n xs cs i) (sink n n xs cs i)))
