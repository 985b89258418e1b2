-- `heap_indexed::offers::offer` meets its contract.
use Prim.Native.Nat.{ℕ, ◌-◌, ◌≤◌, ◌<◌}
use mathlib.Core.Path.{refl, sym, ap, ◌∙◌}
use Rattle.std.proofs.Common.{Some}
use lib.ListN.{length}
use native.Mathlib.Omega.{arith}
use mir.Facts.{to_z-of_z}
use Rattle.heap_index.specs.Index.{word}
use Rattle.heap_index.proofs.Walks.{found-place, found_number, vacant_place}
use Rattle.heap_indexed.proofs.Steps.{offer_known, offer-seat, offer_full, offer-refused}
use Rattle.heap_indexed.proofs.offers.offer.Goals as goal
use Rattle.heap_indexed.proofs.offers.offer.Goals.{In-Met, In-Vacant}

below : {w n : ℕ} → (0 < w) × (w ≤ n) → w - 1 < n
below h = omega (arith, h.0, h.1)

-- where the lookup ended
at_key : (c : In-Met) → c.in-Met.p < length c.args.index.now
at_key c = found-place _ _ _ _ _ _ (sym c.look.ensures ∙ c.in-Some.is ∙ ap Some c.in-Met.is)

number : (c : In-Met) → (0 < word c.args.index.now c.in-Met.p) × (word c.args.index.now c.in-Met.p ≤ c.args.len)
number c = found_number _ _ _ _ _ _ (sym c.look.ensures ∙ c.in-Some.is ∙ ap Some c.in-Met.is)

at-empty : (c : In-Vacant) → c.in-Vacant.p < length c.args.index.now
at-empty c = vacant_place _ _ _ _ _ _ (sym c.look.ensures ∙ c.in-Some.is ∙ ap Some c.in-Vacant.is)

pub offset_bounds-index-p : goal.offset_bounds-index-p
offset_bounds-index-p c = omega (arith, at_key (goal.at.offset_bounds-index-p c).In-Met)

pub bounds-index-p : goal.bounds-index-p
bounds-index-p c = at_key (goal.at.bounds-index-p c).In-Met

pub overflow_sub-i : goal.overflow_sub-i
overflow_sub-i c = (number (goal.at.overflow_sub-i c).In-Met).0

pub rescore-made-requires : goal.rescore-made-requires
rescore-made-requires c =
    let pre = c.requires in
    record {
      cover = record { words = omega (arith, pre.words, pre.counts); used = omega (arith, pre.counts, pre.used) };
      i_lt_n = below (number (goal.at.rescore-made-requires c).In-Met);
    }

pub seat-made-requires : goal.seat-made-requires
seat-made-requires c =
    let pre = c.requires in
    record {
      cover = record { words = omega (arith, pre.words, pre.counts); used = omega (arith, pre.counts, c.if-len-size.true) };
      p_in_bounds = at-empty (goal.at.seat-made-requires c).In-Vacant;
    }

pub returns-then-len-size : goal.returns-then-len-size
returns-then-len-size c = offer-seat _ _ _ _ _ _ _ (to_z-of_z c.ranges.v) _ _ _ (sym c.look.ensures ∙ c.in-Some.is ∙ ap Some c.in-Vacant.is) c.if-len-size.true _ c.seat-made.ensures

pub returns-in-Met : goal.returns-in-Met
returns-in-Met c = offer_known _ _ _ _ _ _ _ (to_z-of_z c.ranges.v) _ _ _ _ (sym c.look.ensures ∙ c.in-Some.is ∙ ap Some c.in-Met.is) refl _ c.rescore-made.ensures

pub returns-else-len-size : goal.returns-else-len-size
returns-else-len-size c = offer_full _ _ _ _ _ _ _ (to_z-of_z c.ranges.v) _ _ _ (sym c.look.ensures ∙ c.in-Some.is ∙ ap Some c.in-Vacant.is) c.if-len-size.false _ c.displace.ensures

pub returns-in_default : goal.returns-in_default
returns-in_default c = offer-refused _ _ _ _ _ _ _ (to_z-of_z c.ranges.v) _ (sym c.look.ensures ∙ c.in_default.is)
