-- `heap_indexed::offers::displace` meets its contract.
use mathlib.Core.Path.{◌≡◌, refl, sym, ◌∙◌}
use lib.ListN.{get_or}
use lib.IntN.{pos}
use native.Mathlib.Omega.{arith}
use borrow.Author.Rules.{sfits_of}
use mir.Facts.{to_z-of_z}
use Rattle.words.specs.Num.{in_range}
use Rattle.heap_indexed.proofs.Steps.{displace-range, displace-less, displace_more}
use Rattle.heap_indexed.proofs.offers.displace.Goals as goal
use Rattle.heap_indexed.proofs.offers.displace.Goals.{After-in_range}

-- what `in_range` says of the root
root_in : (c : After-in_range) → in_range (get_or c.args.counts.now 0 (pos 0)) ≡ c.in_range.result
root_in c = sym (rw (to_z-of_z (sfits_of c.in_range-arg-1.given)) at c.in_range.ensures)

pub returns-then-not-in_range : goal.returns-then-not-in_range
returns-then-not-in_range c = displace-range _ _ _ _ _ _ _ (to_z-of_z c.ranges.v) (omega arith) (root_in (goal.at.returns-then-not-in_range c).After-in_range ∙ c.if-not-in_range.true)

pub returns-then-counts-v : goal.returns-then-counts-v
returns-then-counts-v c =
    displace_more _ _ _ _ _ _ _ (to_z-of_z c.ranges.v) (omega arith) (root_in (goal.at.returns-then-counts-v c).After-in_range ∙ c.if-not-in_range.false) c.t11-1.given c.if-counts-v.true _ refl _
    c.replace-made.ensures

pub returns : goal.returns
returns c = displace-less _ _ _ _ _ _ _ (to_z-of_z c.ranges.v) (omega arith) (root_in (goal.at.returns c).After-in_range ∙ c.if-not-in_range.false) c.t11-1.given c.if-counts-v.false
