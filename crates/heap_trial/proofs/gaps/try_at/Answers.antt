-- `heap_trial::gaps::try_at` meets its contract.
use mathlib.Core.Path.{refl, ◌∙◌}
use lib.ListN.{length-set}
use native.Mathlib.Omega.{arith}
use Rattle.heap_trial.proofs.Backs.{put_back}
use Rattle.heap_trial.proofs.gaps.try_at.Goals as goal

pub bounds-index-p-3 : goal.bounds-index-p-3
bounds-index-p-3 c = omega (arith, c.try_sink-r.auto.index ∙ length-set c.args.index.now c.args.p 1, c.requires.n_nonzero.1)

pub shape_of-index : goal.shape_of-index
shape_of-index c = simp length-set (c.try_sink-r.auto.index ∙ simp length-set)

pub returns : goal.returns
returns c =
    record {
      value = c.try_sink-r.ensures.value;
      index_unchanged = put_back 0 _ _ _ 1 _ c.try_sink-r.ensures.index_unchanged refl;
      counts_unchanged = c.try_sink-r.ensures.counts_unchanged;
    }
