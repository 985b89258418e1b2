-- `heap::tell::tell_at` meets its contract.
use lib.ListN.{length-set}
use native.Mathlib.Omega.{arith}
use Rattle.heap.proofs.Places.{tell_sets}
use Rattle.heap.proofs.tell.tell_at.Goals as goal

pub bounds-list-i-2 : goal.bounds-list-i-2
bounds-list-i-2 c = simp length-set (omega (arith, c.requires))

pub returns : goal.returns
returns c =
    rw (c.from.ensures) (tell_sets c.args.list.now c.args.i c.args.a c.requires)
