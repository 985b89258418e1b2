-- `words::capped_square` meets its contract.
use Rattle.std.proofs.Common.{◌≤◌, nat_abs, ◌∙◌, arith, to_z-of_z}
use Rattle.words.proofs.Squares.{square-small, capped_small, capped_large}
use Rattle.words.specs.Num.{short_top}
use Rattle.words.proofs.capped_square.Goals as goal
use Rattle.words.proofs.capped_square.Goals.{Then-is_short}

short : (c : Then-is_short) → nat_abs c.args.x ≤ short_top
short c = rw (to_z-of_z c.ranges.x) at c.is_short.ensures c.if-is_short.true

pub short_square-requires : goal.short_square-requires
short_square-requires c = rw (to_z-of_z c.ranges.x) (short (goal.at.short_square-requires c).Then-is_short)

pub returns-then-is_short : goal.returns-then-is_short
returns-then-is_short c = rw (to_z-of_z c.ranges.x) at c.short_square.ensures ∙ capped_small c.args.x (omega (arith, short (goal.at.returns-then-is_short c).Then-is_short))

pub overflow_mul-result : goal.overflow_mul-result
overflow_mul-result c = let a = c.magnitude-a.result in record { fits = omega (arith, square-small a (omega arith)) }

pub returns-then-a-le-ROOT_CAP : goal.returns-then-a-le-ROOT_CAP
returns-then-a-le-ROOT_CAP c = let e = rw (to_z-of_z c.ranges.x) at c.magnitude-a.ensures in rw e (capped_small c.args.x (omega (arith, c.if-a-le-ROOT_CAP.true)))

pub returns : goal.returns
returns c = let e = rw (to_z-of_z c.ranges.x) at c.magnitude-a.ensures in capped_large c.args.x (omega (arith, c.if-a-le-ROOT_CAP.false))
