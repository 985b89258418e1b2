-- Whether an offer would be refused, in the parts in which it is tried.
use Rattle.std.specs.Prelude.{ℕ, ◌*◌, ◌≤◌, Bool, false, cond, not, List}
use Rattle.heap_moves.specs.Cands.{Cand, most_cands}
use Rattle.heap.specs.Offer.{Table}
use Rattle.heap_index.specs.Index.{IndexStep, insert}
use Rattle.heap_indexed.specs.Moves.{IndexedCands, sink, not_moved}
use Rattle.heap_indexed.specs.Offers.{come_in}

-- the new key comes in under the root's number, and moves down
abbrev pub enter_sink : ℕ → List ℕ → List Cand → ℕ → IndexedCands
enter_sink n xs cs k = cond (not (insert xs n cs k 0).fine) (not_moved cs (insert xs n cs k 0).table) (sink n n (insert xs n cs k 0).table cs 0)

-- a key has gone out, and the new one comes in
unfoldable pub then_in : IndexStep → Table → Cand → Bool
then_in s t c = cond (not s.fine) false (come_in s.table t c).fine

-- an index of nx places and nc counts of which a copy is held
pub record Small (nx nc : ℕ) : Type 0 where
  pub places : nx ≤ 2 * most_cands
  pub counts : nc ≤ most_cands
