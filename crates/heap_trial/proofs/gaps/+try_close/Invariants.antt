-- `heap_trial::gaps::try_close` meets its contract.
use Rattle.heap_trial.proofs.gaps.+try_close.Given as goal

abbrev pub decreases-try_close : goal.decreases-try_close
decreases-try_close l = l.depth
