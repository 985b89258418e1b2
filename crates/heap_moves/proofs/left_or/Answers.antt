-- `heap_moves::left_or` meets its contract.
use mathlib.Core.Path.{sym, ◌∙◌}
use mathlib.Core.Bool.{true, false}
use native.Mathlib.Omega.{arith}
use Rattle.heap_moves.proofs.Down.{left-none, left_is}
use Rattle.heap_moves.proofs.left_or.Goals as goal
use Rattle.heap_moves.proofs.left_or.Goals.{else-left-n-via-then-left-n+else-should_swap, else-left-n-via-else-left-n}

pub returns-then-should_swap : goal.returns-then-should_swap
returns-then-should_swap c =
    let a = c.args in
    (λ es. left_is a.n es a.counts.now a.i true c.if-left-n.true (sym (c.should_swap.ensures es) ∙ c.if-should_swap.true), (omega arith, omega arith))

pub returns : goal.returns
returns c =
    let a = c.args in (
      λ es.
          elim c.else-left-n.branch [
            | else-left-n-via-then-left-n+else-should_swap w ↦ left_is a.n es a.counts.now a.i false w.if-left-n.true (sym (w.should_swap.ensures es) ∙ w.if-should_swap.false)
            | else-left-n-via-else-left-n w ↦ left-none a.n es a.counts.now a.i w.if-left-n.false
          ],
      (omega arith, omega arith),
    )
