-- `estimates::standard::standard_sum` meets its contract.
use Rattle.std.proofs.Common.{◌≡◌, ◌+◌, ◌-◌, ap, ◌∙◌, arith}
use lib.Dec.{eqb}
use native.Mathlib.Nat.{sub-zero}
use Rattle.layout.specs.Slices.{view}
use Rattle.layout.specs.Lending.{lent_read}
use Rattle.sums.specs.inner.Up.{joined_sums}
use Rattle.sums.proofs.Steps.{std_start, std_turn, std_end}
use Rattle.estimates.specs.Sums.{own_at}
use Rattle.estimates.proofs.Layers.{own-of, readable-of}
use Rattle.estimates.proofs.standard.standard_sum.Goals as goal

pub loop-l-init : goal.loop-l-init
loop-l-init c = let a = c.args in std_start a.g a.every (own_at (view (lent_read a.state))) a.state.header.now.shape.layers

pub sum_anew-own-requires-clause-entries_readable : goal.sum_anew-own-requires-clause-entries_readable
sum_anew-own-requires-clause-entries_readable c =
    let y = c.layer.ensures in
    readable-of (lent_read c.args.state) (c.loop-l.l - 1) c.layer.result (record { housed = y.housed; words = y.entries_len }) y.layer y.dims c.requires (omega arith)

pub loop-l-preserved : goal.loop-l-preserved
loop-l-preserved c =
    let a = c.args in
    let lp = c.loop-l in
    let y = c.layer.ensures in
    let own = own_at (view (lent_read a.state)) in
    let n = a.state.header.now.shape.layers in
    let o = own-of (lent_read a.state) (lp.l - 1) c.layer.result (record { housed = y.housed; words = y.entries_len }) y.layer y.dims in
    let z : lp.l - 1 + 1 ≡ lp.l = omega arith in
    rw z at (c.join-sum.ensures ∙ ap (joined_sums (eqb (lp.l - 1 + 1) n) lp.sum) (rw o at c.sum_anew-own.ensures))
    ∙ std_turn a.g a.every own n lp.l lp.sum c.loop-l-test.true lp.auto.l lp.invariant

pub returns : goal.returns
returns c =
    let a = c.args in
    let z : c.loop-l.l ≡ 0 = omega arith in
    rw (z, sub-zero) at c.loop-l.invariant ∙ std_end a.g a.every (own_at (view (lent_read a.state))) a.state.header.now.shape.layers c.requires.standing.accepted.some
