-- `univmon::marks::mark_layer_candidates_incomplete` meets its contract.
use mathlib.Core.Path.{◌≡◌, sym, ◌∙◌}
use mathlib.Core.Bool.{true}
use native.Mathlib.Omega.{arith}
use borrow.Author.Tests.{le-leb, lt-leb}
use Rattle.header.specs.Header.{header_ok}
use Rattle.header.proofs.Ranges.{ranged_of}
use Rattle.univmon.specs.Calls.{mark_layer_call}
use Rattle.univmon.proofs.marks.mark_layer_candidates_incomplete.Goals as goal
use Rattle.univmon.proofs.marks.mark_layer_candidates_incomplete.Goals.{Else-not-in_range}

-- the header was found in range
in-range : (c : Else-not-in_range) → header_ok c.args.header ≡ true
in-range c = sym c.in_range.ensures ∙ c.if-not-in_range.false

pub returns-then-not-in_range : goal.returns-then-not-in_range
unfolding mark_layer_call
returns-then-not-in_range c = simp (sym c.in_range.ensures ∙ c.if-not-in_range.true)

pub returns-then-header-layer : goal.returns-then-header-layer
unfolding mark_layer_call
returns-then-header-layer c = simp (in-range (goal.at.returns-then-header-layer c).Else-not-in_range, le-leb _ _ c.if-header-layer.true)

pub clear_flag-requires : goal.clear_flag-requires
clear_flag-requires c = omega (arith, (ranged_of c.args.header (in-range (goal.at.clear_flag-requires c).Else-not-in_range)).accepted.few, c.if-header-layer.false)

pub returns : goal.returns
unfolding mark_layer_call
returns c = simp (in-range (goal.at.returns c).Else-not-in_range, lt-leb _ _ c.if-header-layer.false, c.clear_flag.ensures)
