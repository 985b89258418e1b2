-- `heap_trial::gaps::close_and_come_in` meets its contract.
use mathlib.Core.Path.{ap}
use mir.Facts.{to_z-of_z}
use Rattle.heap_trial.proofs.Closes.{then_no, then-in, as_came}
use Rattle.heap_trial.proofs.gaps.close_and_come_in.Goals as goal

pub returns-then-not-close_from : goal.returns-then-not-close_from
returns-then-not-close_from c =
    then_no _ _ _ _ c.close_from.ensures.value (c.if-not-close_from.true)

pub returns : goal.returns
returns c =
    then-in _ _ _ _ c.close_from.ensures.value (c.if-not-close_from.false) _ c.close_from.ensures.index_after _ (as_came _ _ _ _ _ (to_z-of_z c.ranges.v) _ (ap (λ s. s.fine) c.come_in.ensures))
