-- `text::word::put_word` meets its contract.
use Rattle.std.proofs.Common.{arith}
use Rattle.text.proofs.Puts.{copied}
use Rattle.text.proofs.word.put_word.Goals as goal

pub returns-clause-out_after : goal.returns-clause-out_after
returns-clause-out_after c = rw c.copy_from_slice.ensures.after (copied c.args.out.now c.args.at _ c.args.word.now (omega arith) (omega arith))
