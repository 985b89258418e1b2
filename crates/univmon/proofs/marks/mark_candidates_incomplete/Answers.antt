-- `univmon::marks::mark_candidates_incomplete` meets its contract.
use mathlib.Core.Path.{sym, ◌∙◌}
use Rattle.univmon.specs.Calls.{mark_call}
use Rattle.univmon.proofs.marks.mark_candidates_incomplete.Goals as goal

pub returns-then-not-in_range : goal.returns-then-not-in_range
unfolding mark_call
returns-then-not-in_range c = simp (sym c.in_range.ensures ∙ c.if-not-in_range.true)

pub returns : goal.returns
unfolding mark_call
returns c = simp (sym c.in_range.ensures ∙ c.if-not-in_range.false, c.clear_flags.ensures)
