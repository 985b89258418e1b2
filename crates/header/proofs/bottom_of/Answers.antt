-- `header::bottom_of` meets its contract.
use Rattle.std.proofs.Common.{sym, ◌∙◌, arith, rules}
use Rattle.header.proofs.Bottoms.{bottom-min}
use Rattle.header.proofs.bottom_of.Goals as goal

pub returns : goal.returns
returns c = (c.min.ensures ∙ sym (bottom-min c.args.hash c.args.layers c.requires.1 (search rules)), omega arith)
