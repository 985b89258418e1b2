-- `sums::add_term` meets its contract.
use mathlib.Core.Path.{◌≡◌, sym, ◌∙◌}
use borrow.Author.Rules.{rules}
use mir.Syntax.{w64}
use mir.Facts.{to_z-of_z}
use Rattle.sums.specs.Terms.{g_of, counted, add_term}
use Rattle.sums.proofs.add_term.Goals as goal
use Rattle.sums.proofs.add_term.Goals.{After-counts_at, After-g_of-x}

-- what the test says
tested : (c : After-counts_at) → let r = c.args.rule in counted r.every r.threshold c.args.count ≡ c.counts_at.result
tested c =
    sym (rw (to_z-of_z {w = w64} {z = c.args.rule.threshold} (search rules), to_z-of_z c.ranges.count) at c.counts_at.ensures)

g-is : (c : After-g_of-x) → c.g_of-x.result ≡ g_of c.args.rule.g c.args.count
g-is c = rw (to_z-of_z c.ranges.count) at c.g_of-x.ensures

pub returns-then-not-counts_at : goal.returns-then-not-counts_at
unfolding add_term
returns-then-not-counts_at c = sym (rw (tested (goal.at.returns-then-not-counts_at c).After-counts_at ∙ c.if-not-counts_at.true))

pub returns-then-rule : goal.returns-then-rule
unfolding add_term
returns-then-rule c = rw (g-is (goal.at.returns-then-rule c).After-g_of-x) (sym (rw (tested (goal.at.returns-then-rule c).After-counts_at ∙ c.if-not-counts_at.false, c.if-rule.true)))

pub returns : goal.returns
unfolding add_term
returns c =
    rw (g-is (goal.at.returns c).After-g_of-x, c.factor_of.ensures)
    (sym (rw (tested (goal.at.returns c).After-counts_at ∙ c.if-not-counts_at.false, c.if-rule.false)))
