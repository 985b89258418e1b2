-- `estimates::terminal::terminal_sum` meets its contract.
use Rattle.std.proofs.Common.{◌≡◌, ◌+◌, ◌-◌, refl, ap, ◌∙◌, arith}
use lib.Dec.{eqb}
use native.Mathlib.Nat.{sub-zero}
use Rattle.layout.specs.Slices.{view}
use Rattle.layout.specs.Lending.{lent_read}
use Rattle.sums.specs.inner.Spaces.{space}
use Rattle.ranks.specs.inner.Step.{Up, up_of, level_place}
use Rattle.ranks.proofs.Levels.{climb-start, climb-turn, climb_end}
use Rattle.estimates.specs.Sums.{terminal_input}
use Rattle.estimates.proofs.terminal.terminal_sum.Goals as goal

pub loop-l-init : goal.loop-l-init
loop-l-init c = let a = c.args in (omega arith, climb-start _ (terminal_input (view (lent_read a.state))) _ a.state.header.now.shape.layers)

pub loop-l-preserved : goal.loop-l-preserved
loop-l-preserved c =
    let a = c.args in
    let lp = c.loop-l in
    let s = terminal_input (view (lent_read a.state)) in
    let n = a.state.header.now.shape.layers in
    let z : lp.l - 1 + 1 ≡ lp.l = omega arith in (
      omega (arith, c.climb-v.ensures.n_le_size, c.requires.standing.accepted.small),
      rw z at c.climb-v.ensures.result_value
          ∙ climb-turn _ s n lp.l (level_place s (eqb lp.l n) (lp.l - 1)) (s.own (lp.l - 1)) (up_of (space lp.keys lp.bottoms lp.counts) lp.v)
          c.loop-l-test.true lp.auto.l refl refl lp.invariant.1,
    )

pub returns : goal.returns
unfolding view
returns c =
    let a = c.args in
    let s = terminal_input (view (lent_read a.state)) in
    let z : c.loop-l.l ≡ 0 = omega arith in
    ap (λ (u : Up). u.sum) (rw (z, sub-zero) at c.loop-l.invariant.1) ∙ climb_end _ s a.state.header.now.shape.layers refl c.requires.standing.accepted.some
