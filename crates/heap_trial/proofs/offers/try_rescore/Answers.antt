-- `heap_trial::offers::try_rescore` meets its contract.
use mir.Syntax.{w64}
use mathlib.Core.Path.{◌∙◌}
use lib.ListN.{length-set}
use native.Mathlib.Omega.{arith}
use borrow.Author.Rules.{rules, sfits_of}
use mir.Facts.{to_z-of_z}
use Rattle.heap_trial.proofs.Backs.{try_rescored, back_count}
use Rattle.heap_trial.proofs.offers.try_rescore.Goals as goal

-- what a lemma proves of the clauses together, under each one's name
by_clause : {A B : Type 0} → A × B → record { cover : A; i_lt_n : B }
by_clause p = record { cover = p.0; i_lt_n = p.1 }

pub try_resettle-r-requires : goal.try_resettle-r-requires
try_resettle-r-requires c = by_clause (simp length-set (search rules))

pub bounds-counts-i-2 : goal.bounds-counts-i-2
bounds-counts-i-2 c = omega (arith, c.try_resettle-r.auto.counts ∙ length-set c.args.counts.now c.args.i _, c.requires.cover.used, c.requires.i_lt_n)

pub shape_of-counts : goal.shape_of-counts
shape_of-counts c = simp length-set (c.try_resettle-r.auto.counts ∙ simp length-set)

pub returns : goal.returns
returns c =
    record {
      value = try_rescored _ _ _ _ _ _ _ (to_z-of_z c.ranges.v) _ _ c.try_resettle-r.ensures.value;
      index_unchanged = c.try_resettle-r.ensures.index_unchanged;
      counts_unchanged = back_count _ _ _ _ _ _ _ c.try_resettle-r.ensures.counts_unchanged (to_z-of_z {w = w64} (sfits_of (search rules)));
    }
