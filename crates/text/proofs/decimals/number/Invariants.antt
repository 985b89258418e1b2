-- `text::decimals::number` meets its contract.
use Rattle.std.proofs.Common.{◌≡◌, drop}
use Rattle.text.specs.Decimals.{num_from}
use Rattle.text.proofs.decimals.number.Given as goal

abbrev pub invariant-loop-i : goal.invariant-loop-i
invariant-loop-i l = num_from l.v l.i (drop l.i l.s) ≡ num_from 0 l.at (drop l.at l.s)
