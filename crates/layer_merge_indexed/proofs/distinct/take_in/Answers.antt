-- `layer_merge_indexed::distinct::take_in` meets its contract.
use Prim.Native.Nat.{◌<◌}
use mathlib.Core.Path.{◌≡◌, refl, sym, ap, ◌∙◌}
use lib.ListN.{length}
use native.Mathlib.Omega.{arith}
use Rattle.std.proofs.Common.{Some}
use Rattle.heap_index.specs.declared.Lookup.TheVariants.{Vacant}
use Rattle.layer_merge_indexed.proofs.Takes.{is_vacant, vacant_at, other_stays, new_items, new_apart}
use Rattle.heap_index.proofs.Walks.{vacant_place}
use Rattle.layer_merge_indexed.proofs.distinct.take_in.Goals as goal
use Rattle.layer_merge_indexed.proofs.distinct.take_in.Goals.{In-Vacant, Start}

-- an empty place is left
empty_left : (c : Start) → c.args.k < length c.args.seen.now
empty_left c = omega (arith, c.requires.behind.places)

-- where the lookup ended is a place
at-empty : (c : In-Vacant) → c.in-Vacant.p < length c.args.seen.now
at-empty c = vacant_place _ _ _ _ _ _ (sym c.look.ensures ∙ c.in-Some.is ∙ ap Some c.in-Vacant.is)

pub returns-in_default : goal.returns-in_default
returns-in_default c =
    record {
      result_after = other_stays _ _ _ _ c.requires.apart (empty_left (goal.at.returns-in_default c).Start) c.args.w _ c.look.ensures (ap is_vacant c.in_default.is);
      apart_2 = (c.requires.apart, omega arith);
    }

pub returns-in_default-l : goal.returns-in_default-l
returns-in_default-l c =
    record {
      result_after = other_stays _ _ _ _ c.requires.apart (empty_left (goal.at.returns-in_default-l c).Start) c.args.w _ c.look.ensures (ap is_vacant (c.in-Some.is ∙ ap Some c.in_default-l.is));
      apart_2 = (c.requires.apart, omega arith);
    }

pub offset_bounds-seen-p : goal.offset_bounds-seen-p
offset_bounds-seen-p c = omega (arith, at-empty (goal.at.offset_bounds-seen-p c).In-Vacant)

pub bounds-seen-p : goal.bounds-seen-p
bounds-seen-p c = at-empty (goal.at.bounds-seen-p c).In-Vacant

pub returns : goal.returns
returns c =
    let k = c.put_cand.auto in
    let is : c.look.result ≡ Some (Vacant c.in-Vacant.p _) = c.in-Some.is ∙ ap Some c.in-Vacant.is in
    let at : vacant_at c.look.result ≡ c.in-Vacant.p = ap vacant_at is in
    let room : c.args.k < length c.args.zeros.now = omega (arith, c.requires.behind.counts) in record {
      result_after = new_items _ _ _ _ c.requires.apart (empty_left (goal.at.returns c).Start) c.args.w _ c.look.ensures room _ (ap is_vacant is) at _ _ _ refl k.entries k.counts c.put_cand.ensures;
      apart_2 = (new_apart _ _ _ _ c.requires.apart (empty_left (goal.at.returns c).Start) c.args.w _ c.look.ensures room _ (ap is_vacant is) at _ _ _ refl k.entries k.counts c.put_cand.ensures, omega arith);
    }
