-- `heap_moves::put_item` meets its contract.
use lib.ListN.{length-set}
use native.Mathlib.Omega.{arith}
use Rattle.heap_moves.proofs.put_item.Goals as goal

pub bounds-entries-a-2 : goal.bounds-entries-a-2
bounds-entries-a-2 c = simp length-set (omega arith)

pub bounds-entries-a-3 : goal.bounds-entries-a-3
bounds-entries-a-3 c = simp length-set (omega arith)

pub bounds-entries-a-4 : goal.bounds-entries-a-4
bounds-entries-a-4 c = simp length-set (omega arith)
