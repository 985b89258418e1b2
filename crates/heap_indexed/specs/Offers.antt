-- A candidate offered to a table with an index.
use Rattle.std.specs.Prelude.{ℕ, suc, ◌+◌, ◌-◌, cond, not, List, set, ltb, Option, Some, None}
use Rattle.std.specs.Int.Signed.{lt_z}
use Rattle.words.specs.Num.{in_range}
use Rattle.heap_moves.specs.Cands.{Cand, count_at, recount}
use Rattle.heap.specs.declared.Answer.{Answer}
use Rattle.heap.specs.declared.Answer.TheVariants.{Rescored, Seated, Displaced, TurnedAway}
use Rattle.heap.specs.Offer.{Table}
use Rattle.heap_index.specs.declared.Lookup.{Lookup}
use Rattle.heap_index.specs.declared.Lookup.TheVariants.{Met, Vacant}
use Rattle.heap_index.specs.Index.{word, key_at, look, insert, remove}
use Rattle.heap_indexed.specs.Moves.{IndexedCands, moved_to, not_moved, climb, sink, resettle}

-- what an offer leaves, whether it was not refused, and which of four things it did
pub record IndexedOffer : Type 0 where
  pub after : IndexedCands
  pub answer : Answer

-- "A known key gets the new count and keeps its stored hashes": entry i
unfoldable pub rescore_in : List ℕ → Table → ℕ → Cand → IndexedCands
rescore_in xs t i c = resettle t.len xs (recount t.cands i c.count) i

-- "A new key is seated while space is left": its lookup ended at the empty place p
unfoldable pub seat_in : List ℕ → Table → ℕ → Cand → IndexedCands
seat_in xs t p c = climb t.len (t.len + 1) (set xs p (suc t.len)) (set t.cands t.len c) t.len

-- "A displaced key goes out, then the new one comes in, then come the moves"
unfoldable pub come_in : List ℕ → Table → Cand → IndexedCands
come_in xs t c =
    cond (not (insert xs t.len (set t.cands 0 c) c.item.key 0).fine) (not_moved (set t.cands 0 c) (insert xs t.len (set t.cands 0 c) c.item.key 0).table)
    (sink t.len t.len (insert xs t.len (set t.cands 0 c) c.item.key 0).table (set t.cands 0 c) 0)

unfoldable pub replace_in : List ℕ → Table → Cand → IndexedCands
replace_in xs t c =
    cond (not (remove xs t.len t.cands 0).fine) (not_moved t.cands (remove xs t.len t.cands 0).table)
    (come_in (remove xs t.len t.cands 0).table t c)

-- "When full .. a new key replaces the root only if its count is strictly greater": the root is read
unfoldable pub displace_in : List ℕ → Table → Cand → IndexedOffer
displace_in xs t c =
    cond (not (in_range (count_at t.cands 0))) (record { after = not_moved t.cands xs; answer = TurnedAway })
    (cond (lt_z (count_at t.cands 0) c.count)
    (record { after = replace_in xs t c; answer = Displaced (key_at t.cands 0) })
    (record { after = moved_to t.cands xs; answer = TurnedAway }))

abbrev pub offer_by : ℕ → List ℕ → Table → Cand → Option Lookup → IndexedOffer
offer_by size xs t c (Some (Met p d)) = record { after = rescore_in xs t (word xs p - 1) c; answer = Rescored }
offer_by size xs t c (Some (Vacant p d)) =
    cond (ltb t.len size) (record { after = seat_in xs t p c; answer = Seated }) (displace_in xs t c)
offer_by size xs t c None = record { after = not_moved t.cands xs; answer = TurnedAway }

-- a candidate offered to a table of `size` places with the index xs
unfoldable pub offer_in : ℕ → List ℕ → Table → Cand → IndexedOffer
offer_in size xs t c = offer_by size xs t c (look xs t.len t.cands c.item.key)
