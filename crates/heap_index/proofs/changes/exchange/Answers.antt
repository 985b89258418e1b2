-- `heap_index::changes::exchange` meets its contract.
use mathlib.Core.Path.{refl, sym}
use native.Mathlib.Omega.{arith}
use Rattle.heap_index.proofs.Walks.{exchange_yes, exchange-left, exchange-right, parts}
use Rattle.heap_index.proofs.changes.exchange.Goals as goal

-- what a lemma proves of the clauses together, under each one's name
by_clause : {A B : Type 0} → A × B → record { value : A; index_after : B }
by_clause p = record { value = p.0; index_after = p.1 }

pub returns-in_default : goal.returns-in_default
returns-in_default c = by_clause (parts _ _ _ (sym (exchange-left _ _ _ _ _ _ _ c.in_default.ensures.place refl (omega arith))))

pub returns-in_default-found_under : goal.returns-in_default-found_under
returns-in_default-found_under c =
    by_clause (parts _ _ _ (sym (exchange-right _ _ _ _ _ _ _ c.in-Some.ensures.place c.in_default-found_under.ensures.place c.in-Some.ensures.within (omega arith))))

pub returns : goal.returns
returns c =
    by_clause (parts _ _ _ (sym (exchange_yes _ _ _ _ _ _ _ c.in-Some.ensures.place c.in-Some-found_under.ensures.place c.in-Some.ensures.within c.in-Some-found_under.ensures.within)))
