-- `heap_trial::paths::try_climb` meets its contract.
use Rattle.heap_trial.proofs.paths.+try_climb.Given as goal

abbrev pub decreases-try_climb : goal.decreases-try_climb
decreases-try_climb l = l.i
