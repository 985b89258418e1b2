-- `lines_test::put_newline` meets its contract.
use Prim.Native.Nat.{◌+◌, ◌≤◌}
use mathlib.Core.Path.{sym, ◌∙◌}
use lib.ListN.{length}
use borrow.Author.Tests.{leb-true}
use Rattle.lines_test.proofs.put_newline.Goals as goal
use Rattle.lines_test.proofs.put_newline.Goals.{Else-not-room}

fits : (c : Else-not-room) → c.args.at + 1 ≤ length c.args.out.now
fits c = leb-true _ _ (sym c.room.ensures ∙ c.if-not-room.false)

pub put_word-requires : goal.put_word-requires
put_word-requires c = fits (goal.at.put_word-requires c).Else-not-room
