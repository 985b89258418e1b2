-- `heap_moves::bubble_down` meets its contract.
use Prim.Native.Nat.{◌-◌}
use Rattle.heap_moves.proofs.Down.{DownInv}
use Rattle.heap_moves.proofs.bubble_down.Given as goal

abbrev pub invariant-loop-i : goal.invariant-loop-i
invariant-loop-i l = DownInv l.initial.entries l.initial.counts l.n l.start l.entries l.counts l.i

abbrev pub decreases-loop-i : goal.decreases-loop-i
decreases-loop-i l = l.n - l.i
