-- `estimates::calls::estimate_l1` meets its contract.
use mathlib.Core.Path.{sym, ◌∙◌}
use lib.Dec.{le→leb}
use native.Mathlib.Omega.{arith}
use lib.Ieee.{in_float}
use Rattle.estimates.specs.Calls.{l1_call}
use Rattle.header.proofs.Ranges.{ranged_of}
use Rattle.estimates.proofs.calls.estimate_l1.Goals as goal

pub returns-then-not-in_range : goal.returns-then-not-in_range
unfolding l1_call
returns-then-not-in_range c = sym (rw (sym c.in_range.ensures ∙ c.if-not-in_range.true))

pub int_to_float-result : goal.int_to_float-result
unfolding in_float
int_to_float-result c = let r = ranged_of c.args.header (sym c.in_range.ensures ∙ c.if-not-in_range.false) in omega (arith, le→leb, r.totals.light)

pub returns : goal.returns
unfolding l1_call
returns c = sym (rw (sym c.in_range.ensures ∙ c.if-not-in_range.false))
