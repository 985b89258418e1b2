-- Relays with an index and relays without one, and what a list of calls makes of both. A relay has a number; a call is lent what the last calls left.
use Rattle.std.specs.Prelude.{ℕ, cond, List, [], ◌∷◌, length, ℤ, eqb}
use Rattle.header.specs.Answers.{Answered}
use Rattle.header.specs.Header.{fresh_header}
use Rattle.layout.specs.Slices.{Lent, lent, view, fresh_lent}
use Rattle.layout.specs.Outcomes.{Left, left, left_after}
use Rattle.layout.specs.Answers.{list_left}
use Rattle.layout_index.specs.Tables.{index_left}
use Rattle.univmon.specs.declared.Kind.{Kind}
use Rattle.univmon.specs.Updates.{update_answers}
use Rattle.univmon.specs.Calls.{update_list_call, clear_call, weight_call, mark_call, mark_layer_call}
use Rattle.univmon_delta.specs.Deltas.{Arrival, delta_answers, delta_list_call}
use Rattle.univmon_merge.specs.Merges.{merge_answers, merge_list_call}
use Rattle.univmon_indexed.specs.Updates.{updated_index, update_answers_in}
use Rattle.univmon_indexed.specs.Calls.{indexed_update_call}
use Rattle.univmon_delta_indexed.specs.Deltas.{arrived_index, delta_answers_in, indexed_delta_call}
use Rattle.univmon_merge_indexed.specs.Merges.{merged_index, indexed_merge_call}
use Rattle.indexed_state.specs.Building.{built_index}

-- ---- calls

-- what is asked of one relay, with the list that the call is lent; "any calls"
pub data Asked : Type 0 where
  update : Kind → List ℕ → ℤ → List ℕ → Asked
  arrive : List ℕ → Arrival → List ℕ → Asked
  weigh : ℕ → Asked
  mark : Asked
  mark-layer : ℕ → Asked
  clear : Asked

-- of a relay, or of two: the second is merged into the first
pub data Call : Type 0 where
  ask : ℕ → Asked → Call
  join : ℕ → ℕ → List ℕ → Call

-- what a call answers: its number, and the list as it leaves it
pub record Told : Type 0 where
  pub refusal : ℕ
  pub list : List ℕ

-- ---- without an index

-- a relay after a call, and the call's answer
pub record Walked : Type 0 where
  pub lends : Lent
  pub told : Told

abbrev pub walked : Left → List ℕ → List ℕ → Walked
walked l told list = record { lends = l.lends; told = record { refusal = l.refusal; list = list_left l.refusal told list } }

-- a call on the header alone
abbrev pub headed : Lent → Answered → Left
headed r a = left a.refusal (lent a.header r.counters r.norms r.entries r.counts)

-- what a call leaves of header and slices
abbrev pub left_of : Asked → Lent → Left
left_of (Asked.update k words w list) r = left_after (λ s. update_list_call k s words w (length list)) r
left_of (Asked.arrive words a list) r = left_after (λ s. delta_list_call s words a (length list)) r
left_of (Asked.weigh w) r = headed r (weight_call r.head w)
left_of Asked.mark r = headed r (mark_call r.head)
left_of (Asked.mark-layer l) r = headed r (mark_layer_call r.head l)
left_of Asked.clear r = left_after clear_call r

abbrev pub told_of : Asked → Lent → List ℕ
told_of (Asked.update k words w list) r = update_answers k (view r) words w
told_of (Asked.arrive words a list) r = delta_answers (view r) words a
told_of (Asked.weigh w) r = []
told_of Asked.mark r = []
told_of (Asked.mark-layer l) r = []
told_of Asked.clear r = []

abbrev pub list_of : Asked → List ℕ
list_of (Asked.update k words w list) = list
list_of (Asked.arrive words a list) = list
list_of (Asked.weigh w) = []
list_of Asked.mark = []
list_of (Asked.mark-layer l) = []
list_of Asked.clear = []

unfoldable pub walk_ask : Asked → Lent → Walked
walk_ask a r = walked (left_of a r) (told_of a r) (list_of a)

unfoldable pub walk_join : Lent → Lent → List ℕ → Walked
walk_join r t list = walked (left_after (λ s. merge_list_call s t (length list)) r) (merge_answers (view r) (view t)) list

-- ---- with an index

-- a relay and its index
pub record Indexed : Type 0 where
  pub lends : Lent
  pub index : List ℕ

pub record Sought : Type 0 where
  pub relay : Indexed
  pub told : Told

abbrev pub sought : Left → List ℕ → List ℕ → List ℕ → List ℕ → Sought
sought l made xs told list =
    record {
      relay = record { lends = l.lends; index = index_left l.refusal made xs };
      told = record { refusal = l.refusal; list = list_left l.refusal told list };
    }

-- both updates and the delta are the indexed ones; calls on the header alone leave the index; `clear` is followed by `build_index`
abbrev pub left_in : Asked → Lent → List ℕ → Left
left_in (Asked.update k words w list) r xs = left_after (λ s. indexed_update_call k s xs words w (length list)) r
left_in (Asked.arrive words a list) r xs = left_after (λ s. indexed_delta_call s xs words a (length list)) r
left_in (Asked.weigh w) r xs = headed r (weight_call r.head w)
left_in Asked.mark r xs = headed r (mark_call r.head)
left_in (Asked.mark-layer l) r xs = headed r (mark_layer_call r.head l)
left_in Asked.clear r xs = left_after clear_call r

abbrev pub made_in : Asked → Lent → List ℕ → List ℕ
made_in (Asked.update k words w list) r xs = updated_index k (view r) xs words w
made_in (Asked.arrive words a list) r xs = arrived_index (view r) xs words a
made_in (Asked.weigh w) r xs = xs
made_in Asked.mark r xs = xs
made_in (Asked.mark-layer l) r xs = xs
made_in Asked.clear r xs = built_index (fresh_header r.head.shape) (fresh_lent r.head.shape).entries xs

abbrev pub told_in : Asked → Lent → List ℕ → List ℕ
told_in (Asked.update k words w list) r xs = update_answers_in k (view r) xs words w
told_in (Asked.arrive words a list) r xs = delta_answers_in (view r) xs words a
told_in (Asked.weigh w) r xs = []
told_in Asked.mark r xs = []
told_in (Asked.mark-layer l) r xs = []
told_in Asked.clear r xs = []

unfoldable pub seek_ask : Asked → Indexed → Sought
seek_ask a z = sought (left_in a z.lends z.index) (made_in a z.lends z.index) z.index (told_in a z.lends z.index) (list_of a)

-- no index of the second is read
unfoldable pub seek_join : Indexed → Lent → List ℕ → Sought
seek_join z t list =
    sought (left_after (λ s. indexed_merge_call s z.index t (length list)) z.lends) (merged_index (view z.lends) (view t) z.index) z.index
    (merge_answers (view z.lends) (view t)) list

-- ---- runs

-- relay i is replaced
abbrev pub put : {A : Type 0} → (ℕ → A) → ℕ → A → ℕ → A
put rs i x j = cond (eqb j i) x (rs j)

-- what relays hold after a list of calls, and what the calls answered
abbrev pub walk_call : (ℕ → Lent) → Call → Walked
walk_call rs (Call.ask i a) = walk_ask a (rs i)
walk_call rs (Call.join i j list) = walk_join (rs i) (rs j) list

abbrev pub first_of : Call → ℕ
first_of (Call.ask i a) = i
first_of (Call.join i j list) = i

unfoldable pub walk_run : (ℕ → Lent) → List Call → ℕ → Lent
walk_run rs [] = rs
walk_run rs (c ∷ cs) = walk_run (put rs (first_of c) (walk_call rs c).lends) cs

unfoldable pub walk_told : (ℕ → Lent) → List Call → List Told
walk_told rs [] = []
walk_told rs (c ∷ cs) = (walk_call rs c).told ∷ walk_told (put rs (first_of c) (walk_call rs c).lends) cs

abbrev pub seek_call : (ℕ → Indexed) → Call → Sought
seek_call zs (Call.ask i a) = seek_ask a (zs i)
seek_call zs (Call.join i j list) = seek_join (zs i) (zs j).lends list

unfoldable pub seek_run : (ℕ → Indexed) → List Call → ℕ → Indexed
seek_run zs [] = zs
seek_run zs (c ∷ cs) = seek_run (put zs (first_of c) (seek_call zs c).relay) cs

unfoldable pub seek_told : (ℕ → Indexed) → List Call → List Told
seek_told zs [] = []
seek_told zs (c ∷ cs) = (seek_call zs c).told ∷ seek_told (put zs (first_of c) (seek_call zs c).relay) cs
