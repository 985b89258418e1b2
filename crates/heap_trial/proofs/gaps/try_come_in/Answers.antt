-- `heap_trial::gaps::try_come_in` meets its contract.
use mir.Syntax.{w64}
use native.Mathlib.Omega.{arith}
use borrow.Author.Rules.{rules, sfits_of}
use mir.Facts.{to_z-of_z}
use Rattle.heap_trial.proofs.Backs.{try_came, back-put}
use Rattle.heap_trial.proofs.gaps.try_come_in.Goals as goal

pub returns : goal.returns
returns c =
    let a = c.put_cand.ensures in
    let b = c.put_cand-2.ensures in record {
      value = try_came _ _ _ _ _ _ _ (to_z-of_z c.ranges.v) _ a _ c.try_insert-r.ensures.value;
      index_unchanged = c.try_insert-r.ensures.index_unchanged;
      counts_unchanged = back-put c.args.entries.now _ _ _ c.args.counts.now _ _ _ _ _ _ _ (omega (arith, c.requires.cover.used, c.requires.n_nonzero)) a c.try_insert-r.ensures.counts_unchanged b c.item_at-item.ensures
          (to_z-of_z {w = w64} (sfits_of (search rules)));
    }
