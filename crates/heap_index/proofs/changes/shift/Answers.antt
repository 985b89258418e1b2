-- `heap_index::changes::shift` meets its contract.
use Rattle.heap_index.proofs.Walks.{shift_yes, shift_no}
use Rattle.heap_index.proofs.changes.shift.Goals as goal

-- what a lemma proves of the clauses together, under each one's name
by_clause : {A B : Type 0} → A × B → record { value : A; index_after : B }
by_clause p = record { value = p.0; index_after = p.1 }

pub returns-then-back-way : goal.returns-then-back-way
returns-then-back-way c = by_clause (let a = c.args in shift_yes a.index.now a.h a.g a.p _ _ c.steps-back.ensures c.steps-way.ensures c.if-back-way.true)

pub returns : goal.returns
returns c = by_clause (let a = c.args in shift_no a.index.now a.h a.g a.p _ _ c.steps-back.ensures c.steps-way.ensures c.if-back-way.false)
