-- `state_forms::cells::lay_cells` meets its contract.
use Prim.Native.Nat.{◌+◌}
use mathlib.Core.Path.{◌≡◌, refl}
use mathlib.Core.List.{◌++◌}
use lib.ListN.{get_or, drop}
use lib.IntN.{pos}
use borrow.Author.Rules.{sfits_of}
use mir.Facts.{to_z-of_z}
use Rattle.state_forms.specs.Sparse.{sparse_text}
use Rattle.state_forms.specs.Grammar.{cell_listing}
use Rattle.state_forms.specs.inner.Laying.{one_text}
use Rattle.state_forms.proofs.Layings.{going_start, going_on, going_room, going_end, sparse_step, sparse_end}
use Rattle.state_forms.proofs.cells.lay_cells.Goals as goal
use Rattle.state_forms.proofs.cells.lay_cells.Goals.{In-loop-c}

-- the counter at the place, then the others
step : (c : In-loop-c) → sparse_text cell_listing c.loop-c.c (drop c.loop-c.c c.args.cells.now)
    ≡ one_text cell_listing c.loop-c.c (get_or c.args.cells.now c.loop-c.c (pos 0)) ++ sparse_text cell_listing (c.loop-c.c + 1) (drop (c.loop-c.c + 1) c.args.cells.now)
step c = sparse_step cell_listing (pos 0) c.args.cells.now c.loop-c.c c.loop-c-test.true

pub loop-c-init : goal.loop-c-init
loop-c-init c = going_start c.args.out.now c.args.at (sparse_text cell_listing 0 c.args.cells.now) (sparse_text cell_listing 0 c.args.cells.now) refl

pub lay_some-p-requires : goal.lay_some-p-requires
lay_some-p-requires c =
    rw (to_z-of_z (sfits_of c.lay_some-arg-in-loop-c-1.given))
    (going_room (one_text cell_listing c.loop-c.c (get_or c.args.cells.now c.loop-c.c (pos 0))) (sparse_text cell_listing (c.loop-c.c + 1) (drop (c.loop-c.c + 1) c.args.cells.now)) c.loop-c.invariant (step (goal.at.lay_some-p-requires c).In-loop-c) c.requires)

pub loop-c-preserved : goal.loop-c-preserved
loop-c-preserved c = going_on c.loop-c.invariant (step (goal.at.loop-c-preserved c).In-loop-c) (rw (to_z-of_z (sfits_of c.lay_some-arg-in-loop-c-1.given)) at c.lay_some-p.ensures)

pub returns : goal.returns
returns c = going_end c.loop-c.invariant (sparse_end cell_listing c.args.cells.now c.loop-c.c c.loop-c-test.false)
