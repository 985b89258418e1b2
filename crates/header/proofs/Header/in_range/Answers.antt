-- `header::Header::in_range` meets its contract.
use Rattle.std.proofs.Common.{◌≡◌, refl, sym, ◌∙◌, ap, true, false, rules, eqb}
use Rattle.refusal.proofs.Numbers.{ok_is, ok_refused}
use Rattle.header.proofs.Refusals.{accepted_of}
use Rattle.header.proofs.Ranges.{header_is}
use Rattle.header.specs.Shape.{shape_refusal}
use Rattle.header.proofs.Header.in_range.Goals as goal
use Rattle.header.proofs.Header.in_range.Goals.{After-is_ok}

-- the test is whether the shape has no refusal
asked : (c : After-is_ok) → eqb (shape_refusal c.args.self.shape) 0 ≡ c.is_ok.result
asked c = ap (λ n. eqb n 0) (sym c.check.ensures) ∙ sym (ok_is c.check.result) ∙ sym c.is_ok.ensures.value

pub rest_in_range-requires : goal.rest_in_range-requires
rest_in_range-requires c = ((accepted_of c.args.self.shape (sym c.check.ensures ∙ ok_refused c.check.result (sym c.is_ok.ensures.value ∙ c.if-is_ok.true))).few, search rules)

pub returns-then-is_ok : goal.returns-then-is_ok
returns-then-is_ok c = header_is c.args.self true _ (asked (goal.at.returns-then-is_ok c).After-is_ok ∙ c.if-is_ok.true) c.rest_in_range.ensures

pub returns-else-is_ok : goal.returns-else-is_ok
returns-else-is_ok c = c.if-is_ok.false ∙ header_is c.args.self false false (asked (goal.at.returns-else-is_ok c).After-is_ok ∙ c.if-is_ok.false) refl
