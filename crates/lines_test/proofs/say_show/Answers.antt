-- `lines_test::say_show` meets its contract.
use Rattle.std.proofs.Common.{◌∙◌, sym, arith}
use borrow.Author.Tests.{leb-true}
use Rattle.text.proofs.DecTexts.{dec-length}
use Rattle.lines_test.proofs.say_show.Goals as goal

pub put_show-n-requires : goal.put_show-n-requires
put_show-n-requires c = let room = leb-true _ _ (sym c.room.ensures ∙ c.if-not-room.false) in omega (arith, room, c.loop-flag-test.array_long, dec-length c.args.bits)
