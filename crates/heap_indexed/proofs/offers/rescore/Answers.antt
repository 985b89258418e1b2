-- `heap_indexed::offers::rescore` meets its contract.
use mathlib.Core.Path.{◌∙◌}
use lib.ListN.{length-set}
use borrow.Author.Rules.{rules}
use mir.Facts.{to_z-of_z}
use Rattle.heap_indexed.proofs.Steps.{rescore_is}
use Rattle.heap_indexed.proofs.offers.rescore.Goals as goal

-- what a lemma proves of the clauses together, under each one's name
by_clause : {A B : Type 0} → A × B → record { cover : A; i_lt_n : B }
by_clause p = record { cover = p.0; i_lt_n = p.1 }

pub resettle-requires : goal.resettle-requires
resettle-requires c = by_clause (simp length-set (search rules))

pub shape_of-counts : goal.shape_of-counts
shape_of-counts c = c.resettle.auto.counts ∙ simp length-set

pub returns : goal.returns
returns c = rescore_is _ _ _ _ _ _ _ (to_z-of_z c.ranges.v) _ _ c.resettle.ensures
