-- What a call on two tiers from C leaves is what the library's own call leaves, as C has it, and the next call on that is again the library's own. So the theorem
-- on shared streams, which is of every shape, holds of relays of two tiers that are called from C.
use Rattle.layout.specs.Slices.{Lent}
use Rattle.univmon_c.specs.SameCalls.{Crosses, SameCalls}
use Rattle.univmon_two_tier.specs.Crossing.{two_tier_face}

pub record FromC (r : Lent) : Type 0 where
  pub crosses : Crosses two_tier_face r
  pub same : SameCalls two_tier_face r

abbrev pub TwoTierFromC : Type 0
TwoTierFromC = (r : Lent) → FromC r
