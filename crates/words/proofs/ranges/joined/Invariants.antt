-- `words::ranges::joined` meets its contract.
use Rattle.std.proofs.Common.{take, drop}
use Rattle.words.specs.Num.{all_in}
use Rattle.words.proofs.Raises.{Joined}
use Rattle.words.proofs.ranges.joined.Given as goal

-- as far as the numbers read so far, the whole is in range if those left are
abbrev pub invariant-loop-x : goal.invariant-loop-x
invariant-loop-x l = Joined l.all (all_in (take l.n l.xs)) (all_in (drop l.x-index (take l.n l.xs)))
