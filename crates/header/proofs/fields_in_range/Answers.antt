-- `header::fields_in_range` meets its contract.
use Rattle.std.proofs.Common.{refl, sym, false, true}
use borrow.Author.Tests.{eqb-true}
use Rattle.header.proofs.Refusals.{accepted_of}
use Rattle.header.proofs.Ranges.{header_is}
use Rattle.header.specs.Shape.{shape_refusal}
use Rattle.header.proofs.fields_in_range.Goals as goal

pub rest_in_range-requires : goal.rest_in_range-requires
rest_in_range-requires c = let s = c.args.shape in ((accepted_of s (eqb-true (shape_refusal s) 0 (sym c.if-accepted.ensures))).few, c.requires)

pub returns-then-accepted : goal.returns-then-accepted
returns-then-accepted c = λ m. header_is _ true _ (sym c.if-accepted.ensures) c.rest_in_range.ensures

pub returns-else-accepted : goal.returns-else-accepted
returns-else-accepted c = λ m. rw c.if-accepted.false (header_is _ false false (sym c.if-accepted.ensures) refl)
