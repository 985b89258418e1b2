-- `heap_index::home_of` meets its contract.
use Prim.Native.Nat.{◌%◌, ◌<◌}
use mathlib.Core.Path.{refl}
use native.Mathlib.Nat.{mod-lt}
use Rattle.heap_index.proofs.Powers.{mask_rest}
use Rattle.heap_index.proofs.home_of.Goals as goal
use Rattle.heap_index.proofs.home_of.Goals.{Start}

-- the rest of the division is a place
below : (c : Start) → c.args.key % c.args.m < c.args.m
below c = mod-lt c.args.key c.requires

pub returns-then-w-mask-eq0 : goal.returns-then-w-mask-eq0
returns-then-w-mask-eq0 c = (mask_rest c.args.m c.args.key c.requires c.if-w-mask-eq0.true, rw (mask_rest c.args.m c.args.key c.requires c.if-w-mask-eq0.true) (below (goal.at.returns-then-w-mask-eq0 c).Start))

pub returns : goal.returns
returns c = (refl, below (goal.at.returns c).Start)
