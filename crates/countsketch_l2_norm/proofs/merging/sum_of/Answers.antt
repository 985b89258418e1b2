-- `countsketch_l2_norm::merging::sum_of` meets its contract.
use lib.IntN.{◌+ℤ◌}
use native.Mathlib.Omega.{arith}
use Rattle.words.proofs.Signed.{back, fits, abs-add, sum_is}
use Rattle.countsketch_l2_norm.proofs.merging.sum_of.Goals as goal

pub overflow_add-result : goal.overflow_add-result
overflow_add-result c = let x = c.args.x in let y = c.args.y in rw (back x (omega (arith, c.requires.0)), back y (omega (arith, c.requires.1))) (fits (x +ℤ y) (omega (arith, abs-add x y, c.requires.0, c.requires.1)))

pub returns : goal.returns
returns c = sum_is c.args.x c.args.y c.requires.0 c.requires.1
