-- Relays that are fed and merged, whatever they are fed: what a list of calls makes of relays and books.
use Rattle.std.specs.Prelude.{ℕ, ◌≡◌, Bool, true, false, cond, not, ◌&&◌, List, [], ◌∷◌, ◌++◌, map, length, get_or, set, replicate, ltb, eqb}
use Rattle.header.specs.declared.Shape.{Shape}
use Rattle.layout.specs.Slices.{Lent, fresh_lent}
use Rattle.layout.specs.Outcomes.{Outcome}
use Rattle.univmon_merge.specs.Merges.{merge_list_call}

-- how relays are fed: what is asked of one (A), and what an accepted one enters into its book (E)
pub record Way (A E : Type 0) : Type 0 where
  pub act : A → Lent → Outcome
  pub enter : A → E

-- a relay: its header and slices "as the last calls on them left them", its book, and whether it was merged into another
pub record Relay (E : Type 0) : Type 0 where
  pub lends : Lent
  pub book : List E
  pub retired : Bool

-- what is asked of relay i; a merge of a second relay into a first, with the list that it is lent
pub data Call (A : Type 0) : Type 0 where
  feed : ℕ → A → Call A
  join : ℕ → ℕ → List ℕ → Call A

module _ {E : Type 0} (sh : Shape) where
  -- "Each relay starts as an accepted `new` of the one shape left it." and its book "starts empty"
  abbrev pub fresh_relay : Relay E
  fresh_relay = record { lends = fresh_lent sh; book = []; retired = false }

  -- n relays at the start
  abbrev pub start : ℕ → List (Relay E)
  start n = replicate n fresh_relay

  -- relay i
  abbrev pub relay_at : List (Relay E) → ℕ → Relay E
  relay_at rs i = get_or rs i fresh_relay

-- which relays were merged into another
abbrev pub retirements : {E : Type 0} → List (Relay E) → List Bool
retirements {E} rs = map (λ (r : Relay E). r.retired) rs

-- "An accepted merge retires the second: no later call names it.": relay i is one that is not retired
abbrev pub live : List Bool → ℕ → Bool
live gone i = ltb i (length gone) && not (get_or gone i false)

-- a merge that may be listed: of a second relay "into a different first"
abbrev pub joinable : List Bool → ℕ → ℕ → Bool
joinable gone i j = live gone i && live gone j && not (eqb i j)

-- a call that may be listed: it names relays that are not retired, and not one relay twice
abbrev pub names : {A : Type 0} → List Bool → Call A → Bool
names gone (feed i a) = live gone i
names gone (join i j list) = joinable gone i j

-- ---- what a call leaves; "Accepted means that no refusal of these papers applies": the outcome is `yes`

module _ {E : Type 0} where
  -- an accepted call enters its entry; "A refused call changes no book."
  abbrev pub fed : Relay E → E → Outcome → Relay E
  fed r e (Outcome.no n) = r
  fed r e (Outcome.yes s) = record { lends = s; book = r.book ++ (e ∷ []); retired = r.retired }

  -- "An accepted merge puts the second's book behind the first's."
  abbrev pub joined_by : Relay E → Relay E → Lent → Relay E
  joined_by a b s = record { lends = s; book = a.book ++ b.book; retired = a.retired }

  -- "An accepted merge retires the second"
  abbrev pub retire : Relay E → Relay E
  retire b = record { lends = b.lends; book = b.book; retired = true }

  abbrev pub joined_to : List (Relay E) → ℕ → ℕ → Relay E → Relay E → Outcome → List (Relay E)
  joined_to rs i j a b (Outcome.no n) = rs
  joined_to rs i j a b (Outcome.yes s) = set (set rs j (retire b)) i (joined_by a b s)

  -- the entry of an accepted call
  abbrev pub if_accepted : E → Outcome → List E
  if_accepted e (Outcome.no n) = []
  if_accepted e (Outcome.yes s) = e ∷ []

module _ {A E : Type 0} (way : Way A E) (sh : Shape) where
  -- the relays after a call
  unfoldable pub called : List (Relay E) → Call A → List (Relay E)
  called rs (feed i a) = set rs i (fed (relay_at sh rs i) (way.enter a) (way.act a (relay_at sh rs i).lends))
  called rs (join i j list) =
      joined_to rs i j (relay_at sh rs i) (relay_at sh rs j) (merge_list_call (relay_at sh rs i).lends (relay_at sh rs j).lends (length list))

  -- a call that may not be listed changes nothing
  abbrev pub step : List (Relay E) → Call A → List (Relay E)
  step rs c = cond (names (retirements rs) c) (called rs c) rs

  -- the relays after a list of calls
  unfoldable pub run : List (Relay E) → List (Call A) → List (Relay E)
  run rs [] = rs
  run rs (c ∷ cs) = run (step rs c) cs

  -- a list in which every call may be listed
  unfoldable pub Listed : List (Relay E) → List (Call A) → Type 0
  Listed rs [] = Unit {0}
  Listed rs (c ∷ cs) = (names (retirements rs) c ≡ true) × Listed (step rs c) cs

  -- what an accepted call enters into a book; a merge enters nothing new
  abbrev pub entered : List (Relay E) → Call A → List E
  entered rs (feed i a) = if_accepted (way.enter a) (way.act a (relay_at sh rs i).lends)
  entered rs (join i j list) = []

  -- all that the accepted calls of a list entered
  unfoldable pub accepted : List (Relay E) → List (Call A) → List E
  accepted rs [] = []
  accepted rs (c ∷ cs) = cond (names (retirements rs) c) (entered rs c) [] ++ accepted (step rs c) cs
