-- `header::lens_few` meets its contract.
use Rattle.std.proofs.Common.{◌<◌, arith}
use Rattle.header.proofs.Steps.{lens_none, len_in}
use Rattle.header.proofs.Sweeps.{sweep_start, sweep_on, sweep_end}
use Rattle.header.specs.Header.{lens_from}
use Rattle.std.proofs.lemmas.List.{length-take, get_or-take}
use Rattle.header.proofs.lens_few.Goals as goal

pub loop-len-init : goal.loop-len-init
loop-len-init c = λ fs. let a = c.args in sweep_start (lens_from a.layers a.heap_size a.lens.now fs) a.layers 0

pub loop-len-preserved : goal.loop-len-preserved
loop-len-preserved c = λ fs.
    let a = c.args in
    let i = c.loop-len.len-index in
    let h : i < a.layers = omega (arith, length-take a.layers a.lens.now) in
    rw (get_or-take a.layers a.lens.now i 0 h)
    (sweep_on (lens_from a.layers a.heap_size a.lens.now fs) a.layers 0 i c.loop-len.few _ (c.loop-len.invariant fs) (omega arith) (λ k. len_in a.layers a.heap_size a.lens.now fs k i h))

pub returns : goal.returns
returns c = λ fs.
    let a = c.args in
    sweep_end (lens_from a.layers a.heap_size a.lens.now fs) a.layers 0 c.loop-len.len-index c.loop-len.few (c.loop-len.invariant fs) (omega (arith, length-take a.layers a.lens.now))
    (lens_none a.layers a.heap_size a.lens.now fs)
