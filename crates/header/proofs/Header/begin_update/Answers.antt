-- `header::Header::begin_update` meets its contract.
use mir.Facts.{to_z-of_z}
use Rattle.std.proofs.Common.{Ok, Err}
use Rattle.std.proofs.lemmas.Result.{err_from_is_err_and}
use Rattle.header.specs.Answers.{answered_lent_by}
use Rattle.header.specs.Header.{scalars_of}
use Rattle.header.proofs.Steps.{header_begins}
use Rattle.header.proofs.Header.begin_update.Goals as goal

pub returns-in_err-totals : goal.returns-in_err-totals
returns-in_err-totals c =
    let a = c.args in
    let p = err_from_is_err_and c.from_residual.result c.from_residual.ensures.1 in
    let b = rw (to_z-of_z c.ranges.weight, c.scalars.ensures) at c.in_err-totals.ensures in
    rw (p.1, p.2) (header_begins a.self a.weight a.mode (answered_lent_by (scalars_of a.self) (Err c.in_err-totals.field-0.0)) b)

pub returns : goal.returns
returns c =
    let a = c.args in
    let b = rw (to_z-of_z c.ranges.weight, c.scalars.ensures) at c.in_ok-totals.ensures in
    header_begins a.self a.weight a.mode (answered_lent_by (scalars_of a.self) (Ok c.in_ok-totals.field-0)) b
