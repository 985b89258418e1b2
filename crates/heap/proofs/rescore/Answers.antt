-- `heap::rescore` meets its contract.
use mathlib.Core.Path.{◌∙◌}
use lib.ListN.{length-set}
use borrow.Author.Rules.{rules}
use mir.Facts.{to_z-of_z}
use Rattle.heap.proofs.Steps.{rescore-view}
use Rattle.heap.proofs.rescore.Goals as goal

pub update_at-requires : goal.update_at-requires
update_at-requires c = simp length-set (search rules)

pub shape_of-counts : goal.shape_of-counts
shape_of-counts c = c.update_at.auto.counts ∙ simp length-set

pub returns : goal.returns
returns c = rescore-view _ _ _ _ _ _ (to_z-of_z c.ranges.v) _ c.update_at.ensures
