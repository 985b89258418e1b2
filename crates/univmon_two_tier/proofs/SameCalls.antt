-- Calls from C on what the library left are the library's own: the statement stands in specs/SameCalls.antt. Assumes nothing.
use mathlib.Core.Path.{refl}
use Rattle.header.proofs.Modes.{mode-back}
use Rattle.layout.specs.Slices.{Lent, lent}
use Rattle.univmon_c.specs.SameCalls.{Crosses}
use Rattle.univmon_c.proofs.SameCalls.{same_calls}
use Rattle.univmon_two_tier.specs.Crossing.{two_tier_face}
use Rattle.univmon_two_tier.specs.SameCalls.{TwoTierFromC}

-- nothing is lost on the way to C and back
crosses : (r : Lent) → Crosses two_tier_face r
crosses r =
    λ i. lent (record { shape = r.head.shape; totals = r.head.totals; mode = mode-back r.head.mode i; flags = r.head.flags; lens = r.head.lens }) r.counters r.norms r.entries r.counts

pub two_tier_from_c : TwoTierFromC
two_tier_from_c r = record { crosses = crosses r; same = same_calls two_tier_face (λ h. refl) r (crosses r) }
