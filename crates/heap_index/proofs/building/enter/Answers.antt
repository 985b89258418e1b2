-- `heap_index::building::enter` meets its contract.
use mathlib.Core.Path.{sym, ap, ◌∙◌}
use Rattle.std.proofs.Common.{Some}
use native.Mathlib.Omega.{arith}
use Rattle.heap_index.proofs.Walks.{key-read, vacant_place}
use Rattle.heap_index.proofs.Scanned.{enter_vacant, enter_met, enter-refused}
use Rattle.heap_index.proofs.building.enter.Goals as goal

pub returns-in_default : goal.returns-in_default
returns-in_default c = enter-refused _ _ _ _ (key-read _ _ _ c.requires.i_in_bounds) (sym c.look.ensures ∙ c.in_default.is)

pub offset_bounds-index-p : goal.offset_bounds-index-p
offset_bounds-index-p c = omega (arith, vacant_place _ _ _ _ _ _ (sym c.look.ensures ∙ c.in-Some.is ∙ ap Some c.in-Vacant.is))

pub bounds-index-p : goal.bounds-index-p
bounds-index-p c = vacant_place _ _ _ _ _ _ (sym c.look.ensures ∙ c.in-Some.is ∙ ap Some c.in-Vacant.is)

pub returns-in-Vacant : goal.returns-in-Vacant
returns-in-Vacant c = enter_vacant _ _ _ _ (key-read _ _ _ c.requires.i_in_bounds) _ _ (sym c.look.ensures ∙ c.in-Some.is ∙ ap Some c.in-Vacant.is)

pub returns-in_default-l : goal.returns-in_default-l
returns-in_default-l c = enter_met _ _ _ _ (key-read _ _ _ c.requires.i_in_bounds) _ (sym c.look.ensures ∙ c.in-Some.is) c.in_default-l.not-Vacant
