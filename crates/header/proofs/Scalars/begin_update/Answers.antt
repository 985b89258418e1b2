-- `header::Scalars::begin_update` meets its contract.
use mathlib.Core.Path.{◌≡◌, sym}
use lib.IntN.{nat_abs}
use mir.Facts.{to_z-of_z}
use Rattle.std.proofs.lemmas.Result.{err_from_is_err_and}
use Rattle.refusal.proofs.Numbers.{number-ne0}
use Rattle.header.proofs.Steps.{begin-sum, begin-refused, begin_done}
use Rattle.header.specs.Header.{begin_tests}
use Rattle.header.specs.Totals.{update_totals}
use Rattle.words.specs.Tests.{number}
use Rattle.header.proofs.Scalars.begin_update.Goals as goal
use Rattle.header.proofs.Scalars.begin_update.Goals.{In_ok-check_begin, After-of_update}

-- no test refuses
accepted : (c : In_ok-check_begin) → let a = c.args in number (begin_tests a.self a.weight a.mode) ≡ 0
accepted c = sym (rw (to_z-of_z c.ranges.weight) at c.in_ok-check_begin.ensures)

-- the weight that is added
added : (c : After-of_update) → c.of_update.result ≡ update_totals (nat_abs c.args.weight)
added c = rw (c.magnitude.ensures, to_z-of_z c.ranges.weight) at c.of_update.ensures

pub returns-in_err-check_begin : goal.returns-in_err-check_begin
returns-in_err-check_begin c =
    let a = c.args in
    let p = err_from_is_err_and c.from_residual.result c.from_residual.ensures.1 in
    let e = c.in_err-check_begin.field-0.0 in
    rw (p.1, p.2) (begin-refused a.self a.weight a.mode _ (rw (to_z-of_z c.ranges.weight) at c.in_err-check_begin.ensures) (number-ne0 e))

pub begin-requires : goal.begin-requires
begin-requires c = let a = c.args in rw (added (goal.at.begin-requires c).After-of_update) (begin-sum a.self a.weight a.mode (accepted (goal.at.begin-requires c).In_ok-check_begin))

pub returns : goal.returns
returns c =
    let a = c.args in
    rw (c.begin.ensures, added (goal.at.returns c).After-of_update) (begin_done a.self a.weight a.mode (accepted (goal.at.returns c).In_ok-check_begin))
