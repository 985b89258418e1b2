-- `heap_indexed::moves::child_in` meets its contract.
use mathlib.Core.Path.{◌∙◌}
use borrow.Author.Rules.{sfits_of}
use borrow.Author.Tests.{le-leb}
use mir.Facts.{to_z-of_z}
use Rattle.heap_indexed.proofs.Steps.{child_yes, child_no}
use Rattle.heap_indexed.proofs.moves.child_in.Goals as goal

pub returns-then-n-j : goal.returns-then-n-j
returns-then-n-j c = λ es. le-leb _ _ c.if-n-j.true ∙ child_no es c.args.counts.now c.args.n c.args.j c.if-n-j.true

pub returns-else-n-j : goal.returns-else-n-j
returns-else-n-j c =
    λ es. child_yes es c.args.counts.now c.args.n c.args.j c.in_range.result c.if-n-j.false c.requires
    (rw (to_z-of_z (sfits_of c.in_range-arg-1.given)) at c.in_range.ensures)
