-- `heap_trial::offers::try_seat` meets its contract.
use mir.Syntax.{w64}
use Prim.Native.Nat.{◌+◌}
use mathlib.Core.Path.{refl, ◌∙◌}
use lib.ListN.{length-set}
use native.Mathlib.Omega.{arith}
use borrow.Author.Rules.{rules, sfits_of}
use mir.Facts.{to_z-of_z}
use Rattle.heap_trial.proofs.Backs.{try_seated, put_back, back-put}
use Rattle.heap_trial.proofs.offers.try_seat.Goals as goal

pub bounds-index-p-3 : goal.bounds-index-p-3
bounds-index-p-3 c = omega (arith, c.try_climb-r.auto.index ∙ length-set c.args.index.now c.args.p (c.args.len + 1), c.requires.p_in_bounds)

pub shape_of-index : goal.shape_of-index
shape_of-index c = simp length-set (c.try_climb-r.auto.index ∙ simp length-set)

pub returns : goal.returns
returns c =
    let a = c.put_cand.ensures in
    let b = c.put_cand-2.ensures in record {
      value = try_seated _ _ _ _ _ _ _ (to_z-of_z c.ranges.v) _ _ _ a c.try_climb-r.ensures.value;
      index_unchanged = put_back 0 _ _ _ _ _ c.try_climb-r.ensures.index_unchanged refl;
      counts_unchanged = back-put c.args.entries.now _ _ _ c.args.counts.now _ _ _ _ _ _ _ (omega (arith, c.requires.cover.used)) a c.try_climb-r.ensures.counts_unchanged b c.item_at-item.ensures (to_z-of_z {w = w64} (sfits_of (search rules)));
    }
