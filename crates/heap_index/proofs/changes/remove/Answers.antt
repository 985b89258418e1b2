-- `heap_index::changes::remove` meets its contract.
use native.Mathlib.Omega.{arith}
use Rattle.heap_index.proofs.Walks.{remove_done, remove-refused}
use Rattle.heap_index.proofs.changes.remove.Goals as goal

-- what a lemma proves of the clauses together, under each one's name
by_clause : {A B : Type 0} → A × B → record { value : A; index_after : B }
by_clause p = record { value = p.0; index_after = p.1 }

pub returns-in_default : goal.returns-in_default
returns-in_default c = by_clause (remove-refused _ _ _ _ _ c.in_default.ensures.place (omega arith))

pub returns : goal.returns
returns c = by_clause (remove_done _ _ _ _ _ c.in-Some.ensures.place c.in-Some.ensures.within _ _ _ c.after-start.ensures.0 c.close_from.ensures.value c.close_from.ensures.index_after)
