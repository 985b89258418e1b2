-- `heap_index::lookups::found_under` meets its contract.
use Prim.Native.Nat.{◌<◌}
use mathlib.Core.Path.{sym, ap, ◌∙◌}
use Rattle.std.proofs.Common.{Some}
use lib.ListN.{length}
use native.Mathlib.Omega.{arith}
use Rattle.heap_index.proofs.Walks.{found-place, place_is, place_told, key-read}
use Rattle.heap_index.proofs.lookups.found_under.Goals as goal
use Rattle.heap_index.proofs.lookups.found_under.Goals.{In-Met}

-- where the lookup ended is a place
at_key : (c : In-Met) → c.in-Met.p < length c.args.index.now
at_key c = found-place _ _ _ _ _ _ (sym c.look.ensures ∙ c.in_ok-p.was ∙ ap Some c.in-Met.is)

pub offset_bounds-index-p : goal.offset_bounds-index-p
offset_bounds-index-p c = omega (arith, at_key (goal.at.offset_bounds-index-p c).In-Met)

pub bounds-index-p : goal.bounds-index-p
bounds-index-p c = at_key (goal.at.bounds-index-p c).In-Met

pub returns-in_err-p-clause-place : goal.returns-in_err-p-clause-place
returns-in_err-p-clause-place c =
    rw c.from_residual.ensures (sym (place_is _ _ _ _ _ _ (key-read _ _ _ c.requires.i_in_bounds) (sym c.look.ensures ∙ c.in_err-p.was)))

pub returns-in-Met : goal.returns-in-Met
returns-in-Met c =
    let t = place_told _ _ _ _ _ _ _ _ (key-read _ _ _ c.requires.i_in_bounds) (sym c.look.ensures ∙ c.in_ok-p.was ∙ ap Some c.in-Met.is) c.then_some.ensures in
    record { place = t.0; within = t.1 }

pub returns-in-Vacant-clause-place : goal.returns-in-Vacant-clause-place
returns-in-Vacant-clause-place c = sym (place_is _ _ _ _ _ _ (key-read _ _ _ c.requires.i_in_bounds) (sym c.look.ensures ∙ c.in_ok-p.was ∙ ap Some c.in-Vacant.is))
