-- `heap_trial::gaps::try_close` meets its contract.
use native.Mathlib.Omega.{arith}
use mir.Facts.{to_z-of_z}
use Rattle.heap_trial.proofs.Closes.{gap_none, gap_closed, gap_from, gap_moved, gap_back, as_then, as_came}
use Rattle.heap_trial.proofs.gaps.+try_close.Goals as goal

pub returns-then-left-eq0-clause-value : goal.returns-then-left-eq0-clause-value
returns-then-left-eq0-clause-value t c = gap_none _ _ _ _ _ _ _ _ c.skip-s.ensures.0 _ _ c.if-left-eq0.true

pub returns-then-x-eq0-clause-value : goal.returns-then-x-eq0-clause-value
returns-then-x-eq0-clause-value t c = gap_closed _ _ _ _ _ _ _ _ c.skip-s.ensures.0 _ _ (omega (arith, c.if-left-eq0.false)) c.if-x-eq0.true _ (as_came _ _ _ _ _ (to_z-of_z c.ranges.v) _ c.try_come_in.ensures.value)

pub returns-then-depth-eq0-clause-value : goal.returns-then-depth-eq0-clause-value
returns-then-depth-eq0-clause-value t c = gap_from _ _ _ _ _ _ _ _ c.skip-s.ensures.0 _ _ _ (as_then _ _ _ _ _ (to_z-of_z c.ranges.v) _ c.close_on_copy.ensures)

pub returns-clause-value : goal.returns-clause-value
returns-clause-value t c =
    gap_moved _ _ _ _ _ _ _ _ c.skip-s.ensures.0 _ _ (omega (arith, c.if-left-eq0.false)) (λ j. rw c.in-Some-true.field-0-test at c.in-Some-true.ensures j) _ c.after-next.ensures.0 _ (as_then _ _ _ _ _ (to_z-of_z c.ranges.v) _ c.try_close-r.ensures.value)

pub returns-clause-index_unchanged : goal.returns-clause-index_unchanged
returns-clause-index_unchanged t c = gap_back _ _ _ _ c.requires.g_in_bounds.1.1 c.if-x-eq0.false c.try_close-r.ensures.index_unchanged
