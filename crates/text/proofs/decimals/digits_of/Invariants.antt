-- `text::decimals::digits_of` meets its contract.
use Prim.Native.Nat.{◌+◌, ◌≤◌}
use mathlib.Core.Path.{◌≡◌}
use lib.ListN.{length}
use Rattle.text.specs.Decimals.{dec}
use Rattle.text.proofs.decimals.digits_of.Given as goal

abbrev pub invariant-loop-v : goal.invariant-loop-v
invariant-loop-v l = (l.v ≤ l.n) × (l.k + length (dec l.v) ≡ length (dec l.n))

abbrev pub decreases-loop-v : goal.decreases-loop-v
decreases-loop-v l = l.v
