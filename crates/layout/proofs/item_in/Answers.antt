-- `layout::item_in` meets its contract.
use Prim.Native.Nat.{◌+◌, ◌*◌}
use mathlib.Core.Path.{◌≡◌}
use native.Mathlib.Omega.{arith}
use Rattle.layout.proofs.item_in.Goals as goal

pub returns : goal.returns
returns c =
    let ws = c.args.«record».now in
    let l = c.args.l in
    let e : 2 + 2 * l + 1 ≡ 3 + 2 * l = omega arith in
    rw e
