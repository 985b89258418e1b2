-- `univmon::marks::set_total_weight` meets its contract.
use mathlib.Core.Path.{◌≡◌, sym, ◌∙◌}
use mathlib.Core.Bool.{true}
use borrow.Author.Tests.{lt-ltb, le-ltb}
use Rattle.header.specs.Header.{header_ok}
use Rattle.univmon.specs.Calls.{weight_call}
use Rattle.univmon.proofs.marks.set_total_weight.Goals as goal
use Rattle.univmon.proofs.marks.set_total_weight.Goals.{Else-not-in_range}

-- the header was found in range
in-range : (c : Else-not-in_range) → header_ok c.args.header ≡ true
in-range c = sym c.in_range.ensures ∙ c.if-not-in_range.false

pub returns-then-not-in_range : goal.returns-then-not-in_range
unfolding weight_call
returns-then-not-in_range c = simp (sym c.in_range.ensures ∙ c.if-not-in_range.true)

pub returns-then-clashes : goal.returns-then-clashes
unfolding weight_call
returns-then-clashes c = simp (in-range (goal.at.returns-then-clashes c).Else-not-in_range, sym c.clashes.ensures ∙ c.if-clashes.true)

pub returns-then-weight-gt-MAX_WEIGHT : goal.returns-then-weight-gt-MAX_WEIGHT
unfolding weight_call
returns-then-weight-gt-MAX_WEIGHT c = simp (in-range (goal.at.returns-then-weight-gt-MAX_WEIGHT c).Else-not-in_range, sym c.clashes.ensures ∙ c.if-clashes.false, lt-ltb _ _ c.if-weight-gt-MAX_WEIGHT.true)

pub returns : goal.returns
unfolding weight_call
returns c =
    simp (
      in-range (goal.at.returns c).Else-not-in_range,
      sym c.clashes.ensures ∙ c.if-clashes.false,
      le-ltb _ _ c.if-weight-gt-MAX_WEIGHT.false,
      c.with_weight.ensures,
      c.join.ensures,
    )
