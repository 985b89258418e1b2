-- `heap_trial::gaps::skip` meets its contract.
use Prim.Native.Nat.{◌-◌}
use Rattle.heap_moves.specs.Flat.{cands_of}
use Rattle.heap_trial.proofs.Closes.{Skipping}
use Rattle.heap_trial.proofs.gaps.skip.Given as goal

abbrev pub invariant-loop-passed : goal.invariant-loop-passed
invariant-loop-passed l = Skipping l.index l.n (cands_of l.entries l.counts) l.g l.start l.many l.place (l.many - l.passed)
