-- `heap_moves::bubble_up` meets its contract.
use Rattle.heap_moves.proofs.Up.{UpInv}
use Rattle.heap_moves.proofs.bubble_up.Given as goal

abbrev pub invariant-loop-i : goal.invariant-loop-i
invariant-loop-i l = UpInv l.initial.entries l.initial.counts l.start l.entries l.counts l.i

abbrev pub decreases-loop-i : goal.decreases-loop-i
decreases-loop-i l = l.i
