-- `heap_index::changes::insert` meets its contract.
use Prim.Native.Nat.{◌<◌}
use mathlib.Core.Path.{sym, ◌∙◌}
use lib.ListN.{length}
use native.Mathlib.Omega.{arith}
use Rattle.heap_index.proofs.Walks.{insert_ends, ends_place, insert-refused}
use Rattle.heap_index.proofs.changes.insert.Goals as goal
use Rattle.heap_index.proofs.changes.insert.Goals.{After-place}

-- where the lookup ended is a place
at_end : (c : After-place) → c.place.result < length c.args.index.now
at_end c = rw c.place.ensures (ends_place _ _ _ _ _ (sym c.look.ensures ∙ c.in-Some.is))

-- what a lemma proves of the clauses together, under each one's name
by_clause : {A B : Type 0} → A × B → record { value : A; index_after : B }
by_clause p = record { value = p.0; index_after = p.1 }

pub returns-in_default : goal.returns-in_default
returns-in_default c = by_clause (insert-refused _ _ _ _ _ (sym c.look.ensures ∙ c.in_default.is))

pub offset_bounds-index-place : goal.offset_bounds-index-place
offset_bounds-index-place c = omega (arith, at_end (goal.at.offset_bounds-index-place c).After-place)

pub bounds-index-place : goal.bounds-index-place
bounds-index-place c = at_end (goal.at.bounds-index-place c).After-place

pub returns : goal.returns
returns c = rw c.place.ensures (by_clause (insert_ends _ _ _ _ _ _ (sym c.look.ensures ∙ c.in-Some.is)))
