-- `text::decimals::put_decimal` meets its contract.
use Prim.Native.Nat.{◌+◌, ◌≤◌, ◌<◌}
use mathlib.Core.Path.{◌≡◌}
use lib.ListN.{length}
use lib.Seq.{sets}
use Rattle.text.specs.Decimals.{dec}
use Rattle.text.proofs.decimals.put_decimal.Given as goal

abbrev pub invariant-loop-v : goal.invariant-loop-v
invariant-loop-v l = (length l.out ≡ length l.initial.out) × ((l.i < length l.initial.out) × ((l.v ≤ l.n) × ((l.i + 1 ≡ l.at + length (dec l.v)) × (sets l.out l.at (dec l.v) ≡ sets l.initial.out l.at (dec l.n)))))

abbrev pub decreases-loop-v : goal.decreases-loop-v
decreases-loop-v l = l.v
