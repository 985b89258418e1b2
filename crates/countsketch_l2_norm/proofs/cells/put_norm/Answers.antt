-- `countsketch_l2_norm::cells::put_norm` meets its contract.
use Prim.Native.Nat.{◌^◌, ◌<◌}
use borrow.Author.Rules.{rules}
use Rattle.countsketch_l2_norm.specs.inner.Needs.{set_norm}
use Rattle.words.proofs.TwoWords.{word_low, word-high}
use Rattle.countsketch_l2_norm.proofs.cells.put_norm.Goals as goal

pub returns : goal.returns
unfolding set_norm
returns c = let w = c.args.w in let h : w.lo < 2 ^ 64 = search rules in rw (word_low w.lo w.hi h, word-high w.lo w.hi h)
