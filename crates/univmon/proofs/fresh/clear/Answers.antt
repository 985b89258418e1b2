-- `univmon::fresh::clear` meets its contract.
use mathlib.Core.Path.{◌≡◌, refl, sym, ◌∙◌}
use native.Mathlib.Omega.{arith}
use Rattle.layout.specs.Slices.{lent, fresh_lent, Lent}
use Rattle.layout.specs.Outcomes.{lent_tests}
use Rattle.univmon.specs.Calls.{clear_call}
use Rattle.layout.proofs.Lengths.{zeroed, stands_of}
use Rattle.words.specs.Tests.{number}
use Rattle.std.proofs.lemmas.Result.{err_from_is_err_and}
use Rattle.refusal.proofs.Numbers.{number-ne0}
use Rattle.layout.proofs.Judged.{left-refused, left_done}
use Rattle.univmon.proofs.fresh.clear.Goals as goal
use Rattle.univmon.proofs.fresh.clear.Goals.{In_ok-check_lent, Start}

-- the state that is lent
abbrev lent_of : Start → Lent
lent_of c = lent c.args.header c.args.counters.now c.args.norms.now c.args.entries.now c.args.counts.now

-- header and lengths were found right
sound : (c : In_ok-check_lent) → number (lent_tests (lent c.args.header c.args.counters.now c.args.norms.now c.args.entries.now c.args.counts.now)) ≡ 0
sound c = sym c.in_ok-check_lent.ensures

pub returns-in_err-check_lent : goal.returns-in_err-check_lent
unfolding clear_call
returns-in_err-check_lent c =
    let r = lent_of (goal.at.returns-in_err-check_lent c).Start in
    let p = err_from_is_err_and c.from_residual.result c.from_residual.ensures.1 in
    rw (p.1, p.2) (left-refused (lent_tests r) r _ _ c.in_err-check_lent.ensures (number-ne0 c.in_err-check_lent.field-0.0))

pub fresh-requires : goal.fresh-requires
fresh-requires c = omega (arith, (stands_of (lent_of (goal.at.fresh-requires c).Start) (sound (goal.at.fresh-requires c).In_ok-check_lent)).accepted.few)

pub returns : goal.returns
unfolding clear_call
returns c =
    let r = lent_of (goal.at.returns c).Start in
    simp (c.fresh.ensures, c.zero_all.ensures.counters_after, c.zero_all.ensures.norms_after, c.zero_all.ensures.entries_after, c.zero_all.ensures.counts_after)
    (zeroed r.head.shape _ _ _ _ (stands_of r (sound (goal.at.returns c).In_ok-check_lent)).sizes ∙ left_done (lent_tests r) r (fresh_lent r.head.shape) refl (sound (goal.at.returns c).In_ok-check_lent))
