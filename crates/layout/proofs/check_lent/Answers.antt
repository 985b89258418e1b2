-- `layout::check_lent` meets its contract.
use mathlib.Core.Path.{sym, ◌∙◌}
use Rattle.header.proofs.Ranges.{ranged_of}
use Rattle.layout.proofs.check_lent.Goals as goal

pub returns-then-not-in_range : goal.returns-then-not-in_range
returns-then-not-in_range c = simp (sym c.in_range.ensures ∙ c.if-not-in_range.true)

pub lengths_match-requires : goal.lengths_match-requires
lengths_match-requires c = (ranged_of c.args.h (sym c.in_range.ensures ∙ c.if-not-in_range.false)).accepted

pub returns-then-not-lengths_match : goal.returns-then-not-lengths_match
returns-then-not-lengths_match c = simp (sym c.in_range.ensures ∙ c.if-not-in_range.false, sym c.lengths_match.ensures ∙ c.if-not-lengths_match.true)

pub returns : goal.returns
returns c = simp (sym c.in_range.ensures ∙ c.if-not-in_range.false, sym c.lengths_match.ensures ∙ c.if-not-lengths_match.false)
