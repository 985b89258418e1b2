-- Demand 3 of relays with an index: a corollary of `IndexedRuns` and of the theorem of `shared_streams`. The proof stands in proofs/IndexedShared.antt, `indexed_shared`.
use Rattle.std.specs.Prelude.{ℕ, ◌<◌, ◌≡◌, List, map, replicate}
use Rattle.header.specs.declared.Shape.{Shape}
use Rattle.header.specs.Shape.{shape_refusal}
use Rattle.header.specs.Header.{fresh_header}
use Rattle.layout.specs.Slices.{fresh_lent}
use Rattle.layout_index.specs.Tables.{tables_in}
use Rattle.indexed_state.specs.Building.{built_index}
use Rattle.shared_streams.specs.Feeds as feeds
use Rattle.shared_streams.specs.Feeds.{start, relay_at}
use Rattle.shared_streams.specs.Relays as relays
use Rattle.shared_streams.specs.Relays.{Relay, run, Listed}
use Rattle.shared_streams.specs.SharedStreams.{Claimed}
use Rattle.indexed_streams.specs.Runs.{Asked, Call, Indexed, seek_run}
use Rattle.indexed_streams.specs.IndexedRuns.{PassingIn}

-- an update or a merge of a listed call, asked with an index
abbrev pub asked : relays.Call → Call
asked (feeds.feed i f) = Call.ask i (Asked.update f.kind f.words f.weight f.list)
asked (feeds.join i j list) = Call.join i j list

-- "Each relay starts as an accepted `new` of the one shape left it.", and `build_index` followed, on a table of zeros
abbrev pub fresh_indexed : Shape → Indexed
fresh_indexed sh = record { lends = fresh_lent sh; index = built_index (fresh_header sh) (fresh_lent sh).entries (replicate (tables_in sh) 0) }

-- the relays after the calls, with an index
abbrev pub sought_after : Shape → List relays.Call → ℕ → Indexed
sought_after sh calls = seek_run (λ _. fresh_indexed sh) (map asked calls)

-- relay i with the header and slices of the run with an index, and its book
abbrev pub relay_in : Shape → ℕ → List relays.Call → ℕ → Relay
relay_in sh n calls i = record { lends = (sought_after sh calls i).lends; book = (relay_at sh (run sh (start sh n) calls) i).book; retired = (relay_at sh (run sh (start sh n) calls) i).retired }

-- what is claimed of n fresh relays with an index after a list of calls
pub record IndexedShared (sh : Shape) (n : ℕ) (calls : List relays.Call) : Type 0 where
  -- header and slices are those of the run without an index
  pub lends : (i : ℕ) → i < n → (sought_after sh calls i).lends ≡ (relay_at sh (run sh (start sh n) calls) i).lends
  -- so every relay is as its book says
  pub each : (i : ℕ) → i < n → Claimed sh (relay_in sh n calls i)
  -- and its index passes the check
  pub passing : (i : ℕ) → PassingIn (sought_after sh calls i)

abbrev pub Corollary : Type 0
Corollary = (sh : Shape) → shape_refusal sh ≡ 0 → (n : ℕ) (calls : List relays.Call) → Listed sh (start sh n) calls → IndexedShared sh n calls
