-- The table of one layer's candidates, and what an offered candidate does to it.
use Rattle.std.specs.Prelude.{ℕ, zero, suc, ◌+◌, Bool, true, false, cond, List, [], ◌∷◌, get_or, set, take, ltb, eqb}
use Rattle.std.specs.Int.Signed.{lt_z}
use Rattle.heap_moves.specs.Cands.{Cand, no_cand, count_at, recount, up, down, update_at}
use Rattle.heap.specs.declared.Answer.{Answer}
use Rattle.heap.specs.declared.Answer.TheVariants.{Rescored, Seated, Displaced, TurnedAway}

-- the entries of `heap size` places, of which the first len are candidates
pub record Table : Type 0 where
  pub cands : List Cand
  pub len : ℕ

-- "a key is found as the first match in array order": its place, or the list's length if it stands nowhere
unfoldable pub find : ℕ → List Cand → ℕ
find k [] = zero
find k (c ∷ cs) = cond (eqb c.item.key k) zero (suc (find k cs))

-- "among its layer's candidates"
abbrev pub place_of : ℕ → Table → ℕ
place_of k t = find k (take t.len t.cands)

-- what an offer leaves, and which of four things it did
pub record Offered : Type 0 where
  pub table : Table
  pub answer : Answer

-- "A known key gets the new count and keeps its stored hashes: true." It moves down, or else up.
unfoldable pub rescore : Table → ℕ → Cand → Table
rescore t i c = record { cands = update_at t.len (recount t.cands i c.count) i; len = t.len }

-- "A new key is seated while space is left: true." It moves up from the first free place.
unfoldable pub seat : Table → Cand → Table
seat t c = record { cands = up t.len (set t.cands t.len c) t.len; len = t.len + 1 }

-- a key that takes the root's place moves down
unfoldable pub replace_root : Table → Cand → Table
replace_root t c = record { cands = down t.len t.len (set t.cands 0 c) 0; len = t.len }

-- "When full the answer is false, and a new key replaces the root only if its count is strictly greater."
unfoldable pub displace : Table → Cand → Offered
displace t c =
    cond (lt_z (count_at t.cands 0) c.count)
    (record { table = replace_root t c; answer = Displaced (get_or t.cands 0 no_cand).item.key })
    (record { table = t; answer = TurnedAway })

-- a candidate offered to a table of `size` places
unfoldable pub offer : ℕ → Table → Cand → Offered
offer size t c =
    cond (ltb (place_of c.item.key t) t.len) (record { table = rescore t (place_of c.item.key t) c; answer = Rescored })
    (cond (ltb t.len size) (record { table = seat t c; answer = Seated })
    (displace t c))

-- the length after an offer
abbrev pub len_by : Answer → ℕ → ℕ
len_by Rescored n = n
len_by Seated n = n + 1
len_by (Displaced k) n = n
len_by TurnedAway n = n

-- 01's true or false
abbrev pub kept_by : Answer → Bool
kept_by Rescored = true
kept_by Seated = true
kept_by (Displaced k) = false
kept_by TurnedAway = false

abbrev pub kept : Offered → Bool
kept o = kept_by o.answer
