-- `lines_test::put_weight` meets its contract.
use Prim.Native.Nat.{◌+◌, ◌≤◌}
use mathlib.Core.Path.{sym, ap, ◌∙◌}
use lib.ListN.{length}
use lib.Seq.{length-sets}
use native.Mathlib.Omega.{arith}
use borrow.Author.Tests.{leb-true}
use mir.Facts.{to_z-of_z}
use Rattle.text.proofs.IntTexts.{signed-length}
use Rattle.lines_test.proofs.put_weight.Goals as goal
use Rattle.lines_test.proofs.put_weight.Goals.{Else-not-room}

fits : (c : Else-not-room) → c.args.at + 22 ≤ length c.args.out.now
fits c = leb-true _ _ (sym c.room.ensures ∙ c.if-not-room.false)

pub put_word-a-requires : goal.put_word-a-requires
put_word-a-requires c = omega (arith, fits (goal.at.put_word-a-requires c).Else-not-room)

pub put_signed-requires : goal.put_signed-requires
put_signed-requires c =
    let e = to_z-of_z c.ranges.w in
    rw e (omega (arith, signed-length c.args.w, c.put_word-a.ensures.value, simp length-sets at (ap length c.put_word-a.ensures.out_after), fits (goal.at.put_signed-requires c).Else-not-room))
