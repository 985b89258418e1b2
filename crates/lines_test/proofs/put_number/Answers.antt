-- `lines_test::put_number` meets its contract.
use Prim.Native.Nat.{◌+◌, ◌≤◌}
use mathlib.Core.Path.{sym, ap, ◌∙◌}
use lib.ListN.{length}
use lib.Seq.{length-sets}
use native.Mathlib.Omega.{arith}
use borrow.Author.Tests.{leb-true}
use Rattle.text.proofs.DecTexts.{dec-length}
use Rattle.lines_test.proofs.put_number.Goals as goal
use Rattle.lines_test.proofs.put_number.Goals.{Else-not-room}

fits : (c : Else-not-room) → c.args.at + 21 ≤ length c.args.out.now
fits c = leb-true _ _ (sym c.room.ensures ∙ c.if-not-room.false)

pub put_word-a-requires : goal.put_word-a-requires
put_word-a-requires c = omega (arith, fits (goal.at.put_word-a-requires c).Else-not-room)

pub put_decimal-requires : goal.put_decimal-requires
put_decimal-requires c = omega (arith, dec-length c.args.n, c.put_word-a.ensures.value, simp length-sets at (ap length c.put_word-a.ensures.out_after), fits (goal.at.put_decimal-requires c).Else-not-room)
