-- `heap_index::lookups::is_name` meets its contract.
use native.Mathlib.Omega.{arith}
use mathlib.Core.Path.{◌∙◌}
use borrow.Author.Tests.{lt-leb}
use borrow.Author.Rules.{sfits_of}
use mir.Facts.{to_z-of_z}
use Rattle.heap_index.proofs.Walks.{name_no, name_is}
use Rattle.heap_index.proofs.lookups.is_name.Goals as goal

pub returns-then-i-n : goal.returns-then-i-n
returns-then-i-n c =
    λ es. name_is es c.args.counts.now c.args.n c.args.w c.in_range.result (omega arith) c.requires.0 c.requires.1
    (rw (to_z-of_z (sfits_of c.in_range-arg-1.given)) at c.in_range.ensures)

pub returns-else-i-n : goal.returns-else-i-n
returns-else-i-n c = λ es. lt-leb _ _ c.if-i-n.false ∙ name_no es c.args.counts.now c.args.n c.args.w c.if-i-n.false
