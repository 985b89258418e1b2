-- `countsketch_l2_norm::merging::sums_fit` meets its contract.
use mathlib.Core.Path.{◌≡◌, refl, sym, ◌∙◌}
use native.Mathlib.Omega.{arith}
use lib.IntN.{◌+ℤ◌}
use borrow.Author.Rules.{sfits_of}
use mir.Syntax.{w64}
use mir.Facts.{to_z-of_z}
use Rattle.std.specs.Prelude.{None}
use Rattle.countsketch_l2_norm.proofs.Merges.{pair_front, pair_next, fit_on, fit_end}
use Rattle.words.proofs.Signed.{back}
use Rattle.words.specs.Num.{in_range}
use Rattle.std.proofs.lemmas.Iterator.{empty_from_Zip}
use Rattle.countsketch_l2_norm.proofs.merging.sums_fit.Goals as goal
use Rattle.countsketch_l2_norm.proofs.merging.sums_fit.Goals.{After-in_range}

tested : (c : After-in_range) → in_range (c.in-Some.x.now +ℤ c.in-Some.y.now) ≡ c.in_range.result
tested c =
    let e = c.in-Some.ensures.steps in
    let p = pair_front e.0 e.1 c.loop-x.invariant.0 in
    let s : c.sum_of.result ≡ c.in-Some.x.now +ℤ c.in-Some.y.now = rw (back c.in-Some.x.now (omega (arith, p.0)), back c.in-Some.y.now (omega (arith, p.1))) at c.sum_of.ensures in
    sym (rw (to_z-of_z {w = w64} (sfits_of c.sum_of.type_inv), s) at c.in_range.ensures)

pub returns-then-sums_joined-lt-RAISED_TOP : goal.returns-then-sums_joined-lt-RAISED_TOP
returns-then-sums_joined-lt-RAISED_TOP c = sym (c.sums_joined.ensures c.if-sums_joined-lt-RAISED_TOP.true)

pub loop-x-init : goal.loop-x-init
loop-x-init c =
    let z = c.zip-x-items.ensures in
    rw (c.into_iter-x-iterator.ensures.into_iter_gives, z.second.0, z.first, c.iter.ensures.rest)
    (record { in_xs = c.requires.xs_value.0; in_ys = c.requires.xs_value.1; same = c.requires.xs_len }, refl)

pub sum_of-requires : goal.sum_of-requires
sum_of-requires c =
    let e = c.in-Some.ensures.steps in
    let p = pair_front e.0 e.1 c.loop-x.invariant.0 in
    rw (back c.in-Some.x.now (omega (arith, p.0)), back c.in-Some.y.now (omega (arith, p.1))) p

pub returns-then-not-in_range : goal.returns-then-not-in_range
returns-then-not-in_range c =
    let e = c.in-Some.ensures.steps in
    sym (c.loop-x.invariant.1 ∙ fit_on e.0 e.1 ∙ rw (tested (goal.at.returns-then-not-in_range c).After-in_range ∙ c.if-not-in_range.true))

pub loop-x-preserved : goal.loop-x-preserved
loop-x-preserved c =
    let e = c.in-Some.ensures.steps in
    (pair_next e.0 e.1 c.loop-x.invariant.0, c.loop-x.invariant.1 ∙ fit_on e.0 e.1 ∙ rw (tested (goal.at.loop-x-preserved c).After-in_range ∙ c.if-not-in_range.false))

pub returns : goal.returns
returns c =
    let g = c.loop-x.invariant in
    sym (g.1 ∙ fit_end _ (empty_from_Zip c.loop-x.x-iterator c.next.new.self None refl c.in-None.ensures.steps g.0.same).0)
