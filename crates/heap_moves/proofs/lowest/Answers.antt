-- `heap_moves::lowest` meets its contract.
use mathlib.Core.Path.{sym, ◌∙◌}
use mathlib.Core.Bool.{true, false}
use native.Mathlib.Omega.{arith}
use Rattle.heap_moves.proofs.Down.{lower-none, lower_is}
use Rattle.heap_moves.proofs.lowest.Goals as goal
use Rattle.heap_moves.proofs.lowest.Goals.{else-right-n-via-then-right-n+else-should_swap, else-right-n-via-else-right-n}

pub returns-then-should_swap : goal.returns-then-should_swap
returns-then-should_swap c =
    let a = c.args in
    let l = c.left_or-j in (
      λ es. lower_is a.n es a.counts.now a.i l.result true (l.ensures.0 es) c.if-right-n.true (sym (c.should_swap.ensures es) ∙ c.if-should_swap.true),
      (omega arith, omega arith),
    )

pub returns : goal.returns
returns c =
    let a = c.args in
    let l = c.left_or-j in (
      λ es.
          elim c.else-right-n.branch [
            | else-right-n-via-then-right-n+else-should_swap w ↦ lower_is a.n es a.counts.now a.i l.result false (l.ensures.0 es) w.if-right-n.true (sym (w.should_swap.ensures es) ∙ w.if-should_swap.false)
            | else-right-n-via-else-right-n w ↦ lower-none a.n es a.counts.now a.i l.result (l.ensures.0 es) w.if-right-n.false
          ],
      l.ensures.1,
    )
