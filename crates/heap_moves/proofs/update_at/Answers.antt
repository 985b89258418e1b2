-- `heap_moves::update_at` meets its contract.
use native.Mathlib.Omega.{arith}
use Rattle.heap_moves.proofs.Down.{update-down, update-up}
use Rattle.heap_moves.proofs.update_at.Goals as goal

pub returns-then-not-bubble_down : goal.returns-then-not-bubble_down
returns-then-not-bubble_down c =
    let d = c.bubble_down in
    update-up _ _ _ _ _ _ (omega arith) c.if-not-bubble_down.true d.ensures.value d.ensures.counts_after c.bubble_up.ensures

pub returns-else-not-bubble_down : goal.returns-else-not-bubble_down
returns-else-not-bubble_down c =
    let d = c.bubble_down in
    update-down _ _ _ _ _ c.if-not-bubble_down.false d.ensures.value d.ensures.counts_after
