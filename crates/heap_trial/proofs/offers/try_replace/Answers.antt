-- `heap_trial::offers::try_replace` meets its contract.
use mathlib.Core.Path.{refl, sym, ◌∙◌}
use lib.ListN.{length-set}
use native.Mathlib.Omega.{arith}
use mir.Facts.{to_z-of_z}
use Rattle.heap_trial.proofs.Backs.{put_back}
use Rattle.heap_trial.proofs.Closes.{try_replaced, try_missing, as_then, place-number, zeroed}
use Rattle.heap_trial.proofs.offers.try_replace.Goals as goal

pub returns-in_default : goal.returns-in_default
returns-in_default c = record {
  value = try_missing _ _ _ _ c.in_default.ensures.place (omega arith);
  index_unchanged = refl;
  counts_unchanged = refl;
}

pub try_close-r-requires : goal.try_close-r-requires
try_close-r-requires c =
    let g = c.in-Some.ensures.within in
    record {
      cover = c.requires.cover;
      n_nonzero = c.requires.n_nonzero;
      g_in_bounds = (simp length-set g, (simp length-set c.after-q.ensures.1, zeroed c.args.index.now _ g));
      small = simp length-set c.requires.small;
    }

pub bounds-index-g-2 : goal.bounds-index-g-2
bounds-index-g-2 c = omega (arith, c.try_close-r.auto.index ∙ length-set c.args.index.now c.in-Some.g 0, c.in-Some.ensures.within)

pub shape_of-index : goal.shape_of-index
shape_of-index c = simp length-set (c.try_close-r.auto.index ∙ simp length-set)

pub returns : goal.returns
returns c =
    let g = c.in-Some in
    record {
      value = try_replaced _ _ _ _ _ g.ensures.place g.ensures.within c.after-q.ensures.0 _ (as_then _ _ _ _ _ (to_z-of_z c.ranges.v) _ c.try_close-r.ensures.value);
      index_unchanged = put_back 0 _ _ _ 0 1 c.try_close-r.ensures.index_unchanged (sym (place-number _ _ _ _ _ g.ensures.place g.ensures.within));
      counts_unchanged = c.try_close-r.ensures.counts_unchanged;
    }
