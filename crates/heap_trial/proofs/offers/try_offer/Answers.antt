-- `heap_trial::offers::try_offer` meets its contract.
use mathlib.Core.Path.{refl, sym, ap, ◌∙◌}
use Rattle.std.proofs.Common.{Some}
use native.Mathlib.Omega.{arith}
use mir.Facts.{to_z-of_z}
use Rattle.heap_index.proofs.Walks.{found-place, found_number, vacant_place}
use Rattle.heap_trial.proofs.Backs.{try_known, try_new, try_full, try_nowhere, one_less}
use Rattle.heap_trial.proofs.offers.try_offer.Goals as goal

pub offset_bounds-index-p : goal.offset_bounds-index-p
offset_bounds-index-p c = omega (arith, found-place _ _ _ _ _ _ (sym c.look.ensures ∙ c.in-Some.is ∙ ap Some c.in-Met.is))

pub bounds-index-p : goal.bounds-index-p
bounds-index-p c = found-place _ _ _ _ _ _ (sym c.look.ensures ∙ c.in-Some.is ∙ ap Some c.in-Met.is)

pub overflow_sub-i : goal.overflow_sub-i
overflow_sub-i c = (found_number _ _ _ _ _ _ (sym c.look.ensures ∙ c.in-Some.is ∙ ap Some c.in-Met.is)).0

pub try_rescore-requires : goal.try_rescore-requires
try_rescore-requires c =
    let pre = c.requires.room in
    record {
      cover = record { words = omega (arith, pre.words, pre.counts); used = omega (arith, pre.counts, pre.used) };
      i_lt_n = one_less (found_number _ _ _ _ _ _ (sym c.look.ensures ∙ c.in-Some.is ∙ ap Some c.in-Met.is));
    }

pub try_seat-requires : goal.try_seat-requires
try_seat-requires c =
    let pre = c.requires.room in
    record {
      cover = record { words = omega (arith, pre.words, pre.counts); used = omega (arith, pre.counts, c.if-len-size.true) };
      p_in_bounds = vacant_place _ _ _ _ _ _ (sym c.look.ensures ∙ c.in-Some.is ∙ ap Some c.in-Vacant.is);
    }

pub returns-then-len-size : goal.returns-then-len-size
returns-then-len-size c =
    record {
      value = try_new _ _ _ _ _ _ _ (to_z-of_z c.ranges.v) _ _ _ _ (sym c.look.ensures ∙ c.in-Some.is ∙ ap Some c.in-Vacant.is) c.if-len-size.true c.try_seat.ensures.value;
      index_unchanged = c.try_seat.ensures.index_unchanged;
      counts_unchanged = c.try_seat.ensures.counts_unchanged;
    }

pub returns-in-Met : goal.returns-in-Met
returns-in-Met c =
    record {
      value = try_known _ _ _ _ _ _ _ (to_z-of_z c.ranges.v) _ _ _ _ (sym c.look.ensures ∙ c.in-Some.is ∙ ap Some c.in-Met.is) c.try_rescore.ensures.value;
      index_unchanged = c.try_rescore.ensures.index_unchanged;
      counts_unchanged = c.try_rescore.ensures.counts_unchanged;
    }

pub returns-else-len-size : goal.returns-else-len-size
returns-else-len-size c =
    record {
      value = try_full _ _ _ _ _ _ _ (to_z-of_z c.ranges.v) _ _ _ _ (sym c.look.ensures ∙ c.in-Some.is ∙ ap Some c.in-Vacant.is) c.if-len-size.false c.try_displace.ensures.value;
      index_unchanged = c.try_displace.ensures.index_unchanged;
      counts_unchanged = c.try_displace.ensures.counts_unchanged;
    }

pub returns-in_default : goal.returns-in_default
returns-in_default c = record {
  value = try_nowhere _ _ _ _ _ _ _ (to_z-of_z c.ranges.v) _ (sym c.look.ensures ∙ c.in_default.is);
  index_unchanged = refl;
  counts_unchanged = refl;
}
