-- `univmon::fresh::new` meets its contract.
use Rattle.std.proofs.Common.{◌≡◌, sym}
use borrow.Author.Tests.{ne_eqb}
use Rattle.std.proofs.lemmas.Result.{err_from_is_err_and}
use Rattle.header.specs.declared.Shape.{Shape}
use Rattle.header.specs.Shape.{shape_refusal}
use Rattle.header.proofs.Refusals.{checked_good, checked_refused}
use Rattle.univmon.specs.Calls.{new_call}
use Rattle.header.specs.OneTier.{one_tier}
use Rattle.univmon.proofs.fresh.new.Goals as goal
use Rattle.univmon.proofs.fresh.new.Goals.{Start, In_ok-shape}

-- the shape of the arguments
abbrev shape_of : Start → Shape
shape_of c = one_tier c.args.heap_size c.args.rows c.args.cols c.args.layers

-- the constructor handed it back
accepted : (c : In_ok-shape) → (shape_refusal (one_tier c.args.heap_size c.args.rows c.args.cols c.args.layers) ≡ 0) × (c.in_ok-shape.shape ≡ one_tier c.args.heap_size c.args.rows c.args.cols c.args.layers)
accepted c = checked_good (one_tier c.args.heap_size c.args.rows c.args.cols c.args.layers) _ (sym c.in_ok-shape.ensures)

pub returns-in_err-shape : goal.returns-in_err-shape
unfolding new_call
returns-in_err-shape c =
    let sh = shape_of (goal.at.returns-in_err-shape c).Start in
    let p = err_from_is_err_and c.from_residual.result c.from_residual.ensures.1 in
    let q = checked_refused sh _ (sym c.in_err-shape.ensures) in
    rw (p.1, p.2) (simp (ne_eqb (shape_refusal sh) 0 q.1, sym q.0))

pub start-requires : goal.start-requires
start-requires c = let q = accepted (goal.at.start-requires c).In_ok-shape in rw q.1 q.0

pub returns : goal.returns
returns c = rw (accepted (goal.at.returns c).In_ok-shape).1 at c.start.ensures
