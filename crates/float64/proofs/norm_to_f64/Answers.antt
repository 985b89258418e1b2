-- `float64::norm_to_f64` meets its contract.
use Rattle.std.proofs.Common.{lit≤}
use lib.Ieee.{binary64, of_int, of_bits}
use Rattle.std.proofs.num.Nearest.{halves_masked, upper_in, lower_in, two_to_32}
use Rattle.float64.proofs.norm_to_f64.Goals as goal

pub int_to_float-high : goal.int_to_float-high
int_to_float-high c = upper_in binary64 32 c.args.n (lit≤ tt) c.ranges.n.fits

pub int_to_float-low : goal.int_to_float-low
int_to_float-low c = lower_in binary64 32 c.args.n (lit≤ tt)

pub returns : goal.returns
unfolding of_int
returns c = halves_masked binary64 32 c.args.n (of_bits binary64 4751297606875873280) two_to_32 (lit≤ tt) (lit≤ tt) c.ranges.n.fits
