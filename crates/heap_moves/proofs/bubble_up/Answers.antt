-- `heap_moves::bubble_up` meets its contract.
use mathlib.Core.Path.{refl, sym, ◌∙◌}
use native.Mathlib.Omega.{arith}
use borrow.Author.Rules.{rules}
use Rattle.heap_moves.proofs.Up.{up_again, up_stop, up_done}
use Rattle.heap_moves.proofs.bubble_up.Goals as goal

pub loop-i-init : goal.loop-i-init
loop-i-init c = record { words = refl; counts = refl; low = omega arith; fuel = c.args.start; enough = omega arith; goes = refl }

pub loop-i-preserved : goal.loop-i-preserved
loop-i-preserved c =
    up_again _ _ _ _ _ _ _ _ _ c.loop-i.invariant c.loop-i-test.true refl (sym (c.should_swap.ensures _) ∙ c.if-should_swap.true)
    (search rules) (search rules) c.swap_entries.ensures

pub returns-else-should_swap : goal.returns-else-should_swap
returns-else-should_swap c =
    up_stop _ _ _ _ _ _ _ c.loop-i.invariant c.loop-i-test.true refl (sym (c.should_swap.ensures _) ∙ c.if-should_swap.false)

pub returns : goal.returns
returns c = up_done _ _ _ _ _ _ c.loop-i.invariant (omega arith)
