-- `indexed_state::lookups::look_in` meets its contract.
use Prim.Native.Nat.{◌<◌}
use mathlib.Core.Path.{sym, ap, ◌∙◌}
use Rattle.std.proofs.Common.{Some}
use lib.ListN.{length, get_or}
use native.Mathlib.Omega.{arith}
use Rattle.indexed_state.proofs.Looks.{walk_looked}
use Rattle.heap_index.proofs.Walks.{found-place, found_number}
use Rattle.indexed_state.proofs.lookups.look_in.Goals as goal
use Rattle.indexed_state.proofs.lookups.look_in.Goals.{In-Met}

-- where the lookup met the key is a place, and it names an entry
at_key : (c : In-Met) → c.in-Met.p < length c.args.index.now
at_key c = found-place _ _ _ _ _ _ (sym c.look.ensures ∙ c.in-Some.is ∙ ap Some c.in-Met.is)

named : (c : In-Met) → 0 < get_or c.args.index.now c.in-Met.p 0
named c = (found_number _ _ _ _ _ _ (sym c.look.ensures ∙ c.in-Some.is ∙ ap Some c.in-Met.is)).0

pub offset_bounds-index-p : goal.offset_bounds-index-p
offset_bounds-index-p c = omega (arith, at_key (goal.at.offset_bounds-index-p c).In-Met)

pub bounds-index-p : goal.bounds-index-p
bounds-index-p c = at_key (goal.at.bounds-index-p c).In-Met

pub overflow_sub-entry : goal.overflow_sub-entry
overflow_sub-entry c = omega (arith, named (goal.at.overflow_sub-entry c).In-Met)

pub returns-in-Met : goal.returns-in-Met
returns-in-Met c = walk_looked _ _ _ _ _ (sym c.look.ensures ∙ c.in-Some.is ∙ ap Some c.in-Met.is)

pub returns-in-Vacant : goal.returns-in-Vacant
returns-in-Vacant c = walk_looked _ _ _ _ _ (sym c.look.ensures ∙ c.in-Some.is ∙ ap Some c.in-Vacant.is)

pub returns-in_default : goal.returns-in_default
returns-in_default c = walk_looked _ _ _ _ _ (sym c.look.ensures ∙ c.in_default.is)
