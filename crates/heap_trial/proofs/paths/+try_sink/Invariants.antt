-- `heap_trial::paths::try_sink` meets its contract.
use Prim.Native.Nat.{◌-◌}
use Rattle.heap_trial.proofs.paths.+try_sink.Given as goal

abbrev pub decreases-try_sink : goal.decreases-try_sink
decreases-try_sink l = l.n - l.i
