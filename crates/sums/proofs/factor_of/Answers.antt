-- `sums::factor_of` meets its contract.
use mathlib.Core.Path.{refl}
use lib.Dec.{le→leb}
use native.Mathlib.Omega.{arith}
use lib.Ieee.{in_float}
use Rattle.sums.specs.Terms.{factor}
use Rattle.sums.proofs.factor_of.Goals as goal

pub int_to_float-result : goal.int_to_float-result
unfolding in_float
int_to_float-result c = omega (arith, le→leb)

pub returns : goal.returns
unfolding factor
returns c = refl
