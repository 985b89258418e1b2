-- `sums::layer_sum` meets its contract.
use mathlib.Core.Path.{sym, ap, ◌∙◌}
use mathlib.Core.List.{[]}
use native.Mathlib.Omega.{arith}
use borrow.Author.Rules.{rules}
use mir.Syntax.{w64}
use Rattle.std.specs.Prelude.{get_or, pos}
use mir.Facts.{to_z-of_z}
use Rattle.sums.specs.inner.Spaces.{space, at}
use Rattle.sums.specs.Terms.{plus_zero, sum_over}
use Rattle.sums.proofs.Views.{view-listed, sum-start, sum_on, sum_end}
use Rattle.sums.proofs.layer_sum.Goals as goal

pub loop-i-init : goal.loop-i-init
loop-i-init c = sum-start c.args.rule (at (space [] c.args.bottoms.now c.args.counts.now)) c.args.n

pub loop-i-preserved : goal.loop-i-preserved
loop-i-preserved c =
    let a = c.args in
    let lp = c.loop-i in
    sum_on a.rule (at (space [] a.bottoms.now a.counts.now)) a.n lp.acc c.add_term-acc.result lp.i lp.invariant (omega arith)
    (rw (to_z-of_z {w = w64} {z = get_or a.counts.now lp.i (pos 0)} (search rules)) at c.add_term-acc.ensures)

pub returns : goal.returns
returns c =
    let a = c.args in
    let s = space [] a.bottoms.now a.counts.now in
    sum_end a.rule (at s) a.n c.loop-i.acc c.loop-i.i c.loop-i.invariant (omega arith) ∙ ap (sum_over a.rule plus_zero) (sym (view-listed s 0 a.n))
