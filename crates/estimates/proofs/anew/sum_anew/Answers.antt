-- `estimates::anew::sum_anew` meets its contract.
use mathlib.Core.Path.{◌≡◌, ap, ◌∙◌}
use mir.Syntax.{w64}
use mir.Val.{to_z, of_z}
use mir.Facts.{to_z-of_z}
use borrow.Author.Rules.{rules, sfits_of}
use native.Mathlib.Omega.{arith}
use Rattle.sums.specs.Entries.{Entry}
use Rattle.sums.specs.Terms.{add_term}
use Rattle.sums.proofs.Views.{sum_on, sum_end}
use Rattle.estimates.specs.inner.Anew.{entry_at}
use Rattle.estimates.proofs.anew.sum_anew.Goals as goal

pub loop-i-preserved : goal.loop-i-preserved
loop-i-preserved c =
    let a = c.args in
    let lp = c.loop-i in
    let fits : to_z w64 (of_z w64 c.counted_at-w.result.count) ≡ c.counted_at-w.result.count = to_z-of_z {w = w64} (sfits_of (search rules)) in
    sum_on a.rule (entry_at a.layer) a.layer.len lp.acc c.add_term-acc.result lp.i lp.invariant (omega arith)
    (rw fits at c.add_term-acc.ensures ∙ ap (λ (w : Entry). add_term a.rule lp.acc w.bottom w.count) c.counted_at-w.ensures)

pub returns : goal.returns
returns c =
    let a = c.args in
    let lp = c.loop-i in
    sum_end a.rule (entry_at a.layer) a.layer.len lp.acc lp.i lp.invariant (omega arith)
