-- The keys of a table, as a multiset, and what each answer says of them.
use Rattle.std.specs.Prelude.{ℕ, ◌≤◌, cond, eqb}
use Rattle.heap_moves.specs.Cands.{Cand}
use Rattle.heap_moves.specs.inner.Totals.{total}
use Rattle.heap.specs.declared.Answer.{Answer}
use Rattle.heap.specs.declared.Answer.TheVariants.{Rescored, Seated, Displaced, TurnedAway}
use Rattle.heap.specs.Offer.{Table}

-- 1 for equal keys, 0 for others
abbrev pub hit : ℕ → ℕ → ℕ
hit j k = cond (eqb j k) 1 0

abbrev pub key_hit : ℕ → Cand → ℕ
key_hit k c = hit c.item.key k

-- how often a key stands among a table's candidates
unfoldable pub times_held : ℕ → Table → ℕ
times_held k t = total (key_hit k) t.len t.cands

-- no key stands there twice
abbrev pub KeysOnce : Table → Type 0
KeysOnce t = (k : ℕ) → times_held k t ≤ 1

-- of the key k: how often it came in when the key j was offered, and how often it went out
abbrev pub gained_by : Answer → ℕ → ℕ → ℕ
gained_by Rescored j k = 0
gained_by Seated j k = hit j k
gained_by (Displaced i) j k = hit j k
gained_by TurnedAway j k = 0

abbrev pub lost_by : Answer → ℕ → ℕ
lost_by Rescored k = 0
lost_by Seated k = 0
lost_by (Displaced i) k = hit i k
lost_by TurnedAway k = 0
