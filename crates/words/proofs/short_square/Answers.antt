-- `words::short_square` meets its contract.
use Rattle.std.proofs.Common.{◌≡◌, ◌*◌, ◌^◌, ◌<◌, pos, ◌*ℤ◌, nat_abs, arith, to_z-of_z, w64, to_z, of_z}
use Rattle.words.proofs.Squares.{square-short, square_pos}
use Rattle.words.proofs.Signed.{back, fits}
use Rattle.words.proofs.short_square.Goals as goal
use Rattle.words.proofs.short_square.Goals.{Start}

product : (c : Start) → to_z w64 (of_z w64 c.args.x) *ℤ to_z w64 (of_z w64 c.args.x) ≡ pos (nat_abs c.args.x * nat_abs c.args.x)
product c = rw (to_z-of_z c.ranges.x) (square_pos c.args.x)

low : (c : Start) → nat_abs c.args.x * nat_abs c.args.x < 2 ^ 63
low c = omega (arith, square-short (nat_abs c.args.x) c.requires)

pub overflow_mul-result : goal.overflow_mul-result
overflow_mul-result c = rw (product (goal.at.overflow_mul-result c).Start) (fits (pos (nat_abs c.args.x * nat_abs c.args.x)) (low (goal.at.overflow_mul-result c).Start))

pub overflow_cast-result : goal.overflow_cast-result
overflow_cast-result c = rw (product (goal.at.overflow_cast-result c).Start, back (pos (nat_abs c.args.x * nat_abs c.args.x)) (low (goal.at.overflow_cast-result c).Start)) (tt, record { fits = omega (arith, low (goal.at.overflow_cast-result c).Start) })

pub returns : goal.returns
returns c = rw (product (goal.at.returns c).Start, back (pos (nat_abs c.args.x * nat_abs c.args.x)) (low (goal.at.returns c).Start))
