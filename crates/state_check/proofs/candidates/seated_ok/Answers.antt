-- `state_check::candidates::seated_ok` meets its contract.
use mathlib.Core.Path.{◌≡◌, sym, ◌∙◌}
use lib.ListN.{get_or}
use lib.IntN.{pos}
use borrow.Author.Rules.{sfits_of, rules}
use borrow.Author.Tests.{eq-eqb}
use mir.Facts.{to_z-of_z}
use Rattle.words.specs.Num.{in_range}
use Rattle.state_check.proofs.Seatings.{seated-out, seated-root, seated-below}
use Rattle.state_check.proofs.candidates.seated_ok.Goals as goal
use Rattle.state_check.proofs.candidates.seated_ok.Goals.{After-in_range}

-- what `in_range` says of the count
range-is : (c : After-in_range) → c.in_range.result ≡ in_range (get_or c.args.counts.now c.args.i (pos 0))
range-is c = rw (to_z-of_z (sfits_of c.x-1.given)) at c.in_range.ensures

pub returns-then-i-eq0 : goal.returns-then-i-eq0
returns-then-i-eq0 c = λ es. let a = c.args in eq-eqb a.i 0 c.if-i-eq0.true ∙ seated-root es a.counts.now a.i c.requires c.if-i-eq0.true (sym (range-is (goal.at.returns-then-i-eq0 c).After-in_range) ∙ c.if-in_range.true)

pub returns-else-i-eq0 : goal.returns-else-i-eq0
returns-else-i-eq0 c = λ es. let a = c.args in seated-below es a.counts.now a.i c.requires (search rules) c.x-1.given (sym (range-is (goal.at.returns-else-i-eq0 c).After-in_range) ∙ c.if-in_range.true)

pub returns-else-in_range : goal.returns-else-in_range
returns-else-in_range c = λ es. let a = c.args in c.if-in_range.false ∙ seated-out es a.counts.now a.i c.requires (sym (range-is (goal.at.returns-else-in_range c).After-in_range) ∙ c.if-in_range.false)
