-- `lines_test::put_digits` meets its contract.
use Prim.Native.Nat.{◌+◌, ◌≤◌}
use mathlib.Core.Path.{sym, ap, ◌∙◌}
use lib.ListN.{length}
use lib.Seq.{length-sets}
use native.Mathlib.Omega.{arith}
use borrow.Author.Tests.{leb-true}
use Rattle.lines_test.proofs.put_digits.Goals as goal
use Rattle.lines_test.proofs.put_digits.Goals.{Else-not-room}

fits : (c : Else-not-room) → c.args.at + 17 ≤ length c.args.out.now
fits c = leb-true _ _ (sym c.room.ensures ∙ c.if-not-room.false)

pub put_word-a-requires : goal.put_word-a-requires
put_word-a-requires c = omega (arith, fits (goal.at.put_word-a-requires c).Else-not-room)

pub put_hex-requires : goal.put_hex-requires
put_hex-requires c = omega (arith, c.put_word-a.ensures.value, simp length-sets at (ap length c.put_word-a.ensures.out_after), fits (goal.at.put_hex-requires c).Else-not-room)
