-- `estimates::norms::squared_total` meets its contract.
use Rattle.std.proofs.Common.{◌≡◌, refl, ap, ◌∙◌, add-one, arith}
use mathlib.Core.Path.{ap₂}
use lib.Ieee.{binary64, add}
use Rattle.estimates.specs.Norms.{squared_below}
use Rattle.estimates.specs.Calls.{norm_state}
use Rattle.estimates.proofs.Layers.{squared-in}
use Rattle.estimates.proofs.norms.squared_total.Goals as goal

pub loop-l-init : goal.loop-l-init
unfolding squared_below
loop-l-init c = refl

pub loop-l-preserved : goal.loop-l-preserved
unfolding squared_below
loop-l-preserved c = rw add-one (ap₂ (add binary64) c.loop-l.invariant (c.squared_at-sum.ensures ∙ squared-in c.args.header c.args.norms.now c.loop-l.l c.loop-l-test.true))

pub returns : goal.returns
returns c =
    let z : c.loop-l.l ≡ c.args.header.shape.layers = omega arith in
    c.loop-l.invariant ∙ ap (squared_below (norm_state c.args.header c.args.norms.now)) z
