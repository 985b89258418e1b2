-- `leaves_test::median` meets its contract.
use Rattle.std.proofs.Common.{refl, arith}
use Rattle.words.specs.Num.{all_in}
use Rattle.leaves_test.proofs.median.Goals as goal

pub loop-k-init : goal.loop-k-init
unfolding all_in
loop-k-init c = record { few = omega arith; long = refl; ranged = refl }
