-- `estimates::calls::three_answers` meets its contract.
use Rattle.std.proofs.Common.{refl}
use Rattle.layout.specs.Slices.{Lent, lent}
use Rattle.std.proofs.lemmas.Result.{err_from_is_err_and}
use Rattle.refusal.specs.Refusals.{number_of}
use Rattle.refusal.proofs.Numbers.{number-ne0}
use Rattle.estimates.specs.Calls.{answer, refused_by}
use Rattle.estimates.proofs.Judges.{panel_first, panel_second, panel_third, panel_all}
use Rattle.estimates.proofs.calls.three_answers.Goals as goal
use Rattle.estimates.proofs.calls.three_answers.Goals.{Start}

-- what is lent
abbrev here : Start → Lent
here c = lent c.args.header c.args.counters.now c.args.norms.now c.args.entries.now c.args.counts.now

pub returns-in_err-estimate_l1 : goal.returns-in_err-estimate_l1
returns-in_err-estimate_l1 c =
    let p = err_from_is_err_and c.from_residual.result c.from_residual.ensures.1 in
    let e = c.in_err-estimate_l1.field-0.0 in
    rw (p.1, p.2) (panel_first (here (goal.at.returns-in_err-estimate_l1 c).Start) (refused_by (number_of e)) c.in_err-estimate_l1.ensures (number-ne0 e))

pub returns-in_err-estimate_l2 : goal.returns-in_err-estimate_l2
returns-in_err-estimate_l2 c =
    let p = err_from_is_err_and c.from_residual-in_err-estimate_l2.result c.from_residual-in_err-estimate_l2.ensures.1 in
    let e = c.in_err-estimate_l2.field-0.0 in
    rw (p.1, p.2) (panel_second (here (goal.at.returns-in_err-estimate_l2 c).Start) (answer 0 c.in_ok-estimate_l1.field-0) (refused_by (number_of e)) c.in_ok-estimate_l1.ensures refl c.in_err-estimate_l2.ensures (number-ne0 e))

pub returns-in_err-estimate_cardinality : goal.returns-in_err-estimate_cardinality
returns-in_err-estimate_cardinality c =
    let p = err_from_is_err_and c.from_residual-in_err-estimate_cardinality.result c.from_residual-in_err-estimate_cardinality.ensures.1 in
    let e = c.in_err-estimate_cardinality.field-0.0 in
    rw (p.1, p.2) (panel_third (here (goal.at.returns-in_err-estimate_cardinality c).Start) (answer 0 c.in_ok-estimate_l1.field-0) (answer 0 c.in_ok-estimate_l2.field-0) (refused_by (number_of e)) c.in_ok-estimate_l1.ensures refl c.in_ok-estimate_l2.ensures refl c.in_err-estimate_cardinality.ensures (number-ne0 e))

pub returns : goal.returns
returns c =
    panel_all (here (goal.at.returns c).Start) (answer 0 c.in_ok-estimate_l1.field-0) (answer 0 c.in_ok-estimate_l2.field-0) (answer 0 c.in_ok-estimate_cardinality.field-0)
    c.in_ok-estimate_l1.ensures refl c.in_ok-estimate_l2.ensures refl c.in_ok-estimate_cardinality.ensures refl
