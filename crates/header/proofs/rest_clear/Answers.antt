-- `header::rest_clear` meets its contract.
use Rattle.std.proofs.Common.{◌-◌, arith}
use Rattle.header.proofs.Steps.{lens_none, len_past}
use Rattle.header.proofs.Sweeps.{sweep_start, sweep_on, sweep_end}
use Rattle.header.specs.Shape.{max_layers}
use Rattle.header.specs.Header.{lens_from}
use Rattle.header.proofs.rest_clear.Goals as goal

pub loop-l-init : goal.loop-l-init
loop-l-init c = λ n. let a = c.args in sweep_start (lens_from a.layers n a.lens.now a.flags.now) (max_layers - a.layers) a.layers

pub loop-l-preserved : goal.loop-l-preserved
loop-l-preserved c = λ n.
    let a = c.args in
    let l = c.loop-l.l in
    sweep_on (lens_from a.layers n a.lens.now a.flags.now) (max_layers - a.layers) a.layers l c.loop-l.clear _ (c.loop-l.invariant n) (omega arith)
    (λ k. len_past a.layers n a.lens.now a.flags.now k l c.loop-l.auto.l)

pub returns : goal.returns
returns c = λ n.
    let a = c.args in
    sweep_end (lens_from a.layers n a.lens.now a.flags.now) (max_layers - a.layers) a.layers c.loop-l.l c.loop-l.clear (c.loop-l.invariant n) (omega arith)
    (lens_none a.layers n a.lens.now a.flags.now)
