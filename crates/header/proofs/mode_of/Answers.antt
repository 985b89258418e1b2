-- `header::mode_of` meets its contract.
use Rattle.std.proofs.Common.{rules, ◌≢◌, arith}
use borrow.Author.Tests.{ne_eqb}
use Rattle.header.specs.Header.{mode_by}
use Rattle.header.proofs.mode_of.Goals as goal

pub returns-in-1 : goal.returns-in-1
unfolding mode_by
returns-in-1 c = search rules

pub returns-in-2 : goal.returns-in-2
unfolding mode_by
returns-in-2 c = search rules

pub returns-in_default : goal.returns-in_default
unfolding mode_by
returns-in_default c =
    let a : c.args.n ≢ 1 = omega arith in
    let b : c.args.n ≢ 2 = omega arith in
    simp (ne_eqb _ 1 a, ne_eqb _ 2 b)
