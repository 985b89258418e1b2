-- `heap_moves::should_swap` meets its contract.
use native.Mathlib.Omega.{arith}
use borrow.Author.Rules.{rules}
use Rattle.heap_moves.proofs.Views.{less-view}
use Rattle.heap_moves.proofs.should_swap.Goals as goal

pub returns : goal.returns
returns c =
    let a = c.args in
    λ es. less-view es a.counts.now a.child a.parent (omega arith) (omega arith) (search rules) (search rules)
