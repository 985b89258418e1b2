-- `estimates::calls::estimate_g_sum` meets its contract.
use mathlib.Core.Path.{◌≡◌, sym, ◌∙◌}
use Rattle.layout.specs.Slices.{Lent, lent}
use Rattle.layout.proofs.Lengths.{stands_of}
use Rattle.estimates.proofs.Judges.{sum-refused, sum-alone, sum_goes}
use Rattle.words.specs.Tests.{number}
use Rattle.layout.specs.Slices as lents
use Rattle.layout.specs.Outcomes.{lent_tests}
use Rattle.std.proofs.lemmas.Result.{err_from_is_err_and}
use Rattle.refusal.specs.Refusals.{number_of}
use Rattle.refusal.proofs.Numbers.{number-ne0}
use Rattle.estimates.proofs.calls.estimate_g_sum.Goals as goal
use Rattle.estimates.proofs.calls.estimate_g_sum.Goals.{In_ok-check_lent, Start}

-- what is lent
abbrev here : Start → Lent
here c = lent c.args.header c.args.counters.now c.args.norms.now c.args.entries.now c.args.counts.now

-- nothing is refused for lengths or header
none : (c : In_ok-check_lent) → number (lent_tests (here (goal.at.In_ok-check_lent c).Start)) ≡ 0
none c = sym c.in_ok-check_lent.ensures

pub returns-in_err-check_lent : goal.returns-in_err-check_lent
returns-in_err-check_lent c =
    let p = err_from_is_err_and c.from_residual.result c.from_residual.ensures.1 in
    rw (p.1, p.2) (let a = c.args in sum-refused (here (goal.at.returns-in_err-check_lent c).Start) a.g a.count_every_key (number_of c.in_err-check_lent.field-0.0) c.in_err-check_lent.ensures (number-ne0 c.in_err-check_lent.field-0.0))

pub returns-then-header_alone : goal.returns-then-header_alone
unfolding lents.view
returns-then-header_alone c = let a = c.args in sum-alone (here (goal.at.returns-then-header_alone c).Start) a.g a.count_every_key (none (goal.at.returns-then-header_alone c).In_ok-check_lent) (sym c.header_alone.ensures ∙ c.if-header_alone.true)

pub sum_by_mode-requires : goal.sum_by_mode-requires
sum_by_mode-requires c = stands_of (here (goal.at.sum_by_mode-requires c).Start) (none (goal.at.sum_by_mode-requires c).In_ok-check_lent)

pub returns : goal.returns
unfolding lents.view
returns c =
    let a = c.args in
    c.sum_by_mode.ensures ∙ sum_goes (here (goal.at.returns c).Start) a.g a.count_every_key (none (goal.at.returns c).In_ok-check_lent) (sym c.header_alone.ensures ∙ c.if-header_alone.false)
