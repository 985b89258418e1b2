-- `header::Shape::check` meets its contract.
use mathlib.Core.Path.{◌≡◌, sym, ◌∙◌}
use mathlib.Core.Bool.{true, false, ◌||◌}
use lib.Dec.{eqb, ltb}
use Rattle.header.proofs.Refusals.{zero_test, domain_test, refusal_is, some-cols}
use Rattle.header.specs.Shape.{max_heap}
use Rattle.words.proofs.Bools.{never}
use Rattle.header.proofs.Shape.check.Goals as goal
use Rattle.header.proofs.Shape.check.Goals.{After-empty_tier-mice, After-tier_above-narrow, Else-self-elephants}

-- what each test of the code says of the shape
zero_is : (c : After-empty_tier-mice) → let s = c.args.self in
    eqb s.heap_size 0 || (eqb s.layers 0 || (c.empty_tier-elephants.result || c.empty_tier-mice.result)) ≡ zero_test s
zero_is c = rw (c.empty_tier-elephants.ensures, c.empty_tier-mice.ensures)

no_zero : (c : Else-self-elephants) → zero_test c.args.self ≡ false
no_zero c = sym (zero_is c.before.before.before) ∙ c.if-self-elephants.false

domain-is : (c : After-tier_above-narrow) → let s = c.args.self in
    c.tier_above-wide.result || (c.tier_above-narrow.result || ltb max_heap s.heap_size) ≡ domain_test s
domain-is c = rw (c.tier_above-wide.ensures, c.tier_above-narrow.ensures)

pub returns-then-self-elephants : goal.returns-then-self-elephants
returns-then-self-elephants c = refusal_is c.args.self true false false false (sym (zero_is (goal.at.returns-then-self-elephants c).After-empty_tier-mice) ∙ c.if-self-elephants.true) (λ e. absurd (never (sym e))) (λ e. absurd (never (sym e))) (λ e. absurd (never (sym e)))

pub returns-then-self : goal.returns-then-self
returns-then-self c = refusal_is c.args.self false true false false (no_zero (goal.at.returns-then-self c).Else-self-elephants) (λ e. c.if-self.true) (λ e. absurd (never (sym e))) (λ e. absurd (never (sym e)))

pub bits_above-requires : goal.bits_above-requires
bits_above-requires c = some-cols c.args.self (no_zero (goal.at.bits_above-requires c).Else-self-elephants)

pub returns-then-bits_above : goal.returns-then-bits_above
returns-then-bits_above c = refusal_is c.args.self false false true false (no_zero (goal.at.returns-then-bits_above c).Else-self-elephants) (λ e. c.if-self.false) (λ e. sym c.bits_above.ensures ∙ c.if-bits_above.true) (λ e. absurd (never (sym e)))

pub returns-then-wide-narrow : goal.returns-then-wide-narrow
returns-then-wide-narrow c = refusal_is c.args.self false false false true (no_zero (goal.at.returns-then-wide-narrow c).Else-self-elephants) (λ e. c.if-self.false) (λ e. sym c.bits_above.ensures ∙ c.if-bits_above.false) (λ e. sym (domain-is (goal.at.returns-then-wide-narrow c).After-tier_above-narrow) ∙ c.if-wide-narrow.true)

pub returns : goal.returns
returns c = refusal_is c.args.self false false false false (no_zero (goal.at.returns c).Else-self-elephants) (λ e. c.if-self.false) (λ e. sym c.bits_above.ensures ∙ c.if-bits_above.false) (λ e. sym (domain-is (goal.at.returns c).After-tier_above-narrow) ∙ c.if-wide-narrow.false)
