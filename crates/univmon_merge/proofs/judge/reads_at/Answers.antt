-- `univmon_merge::judge::reads_at` meets its contract.
use mathlib.Core.Path.{ap₂, ◌∙◌}
use native.Mathlib.Omega.{arith}
use Rattle.layer.specs.Merge.{merge_reads}
use Rattle.univmon_merge.proofs.judge.reads_at.Goals as goal

pub merge_reads-requires : goal.merge_reads-requires
merge_reads-requires c =
    let h = c.layer-own.ensures.housed in
    let k = c.layer-second.ensures.housed in
    (omega (arith, h.used, h.seats), omega (arith, k.used, k.seats))

pub returns : goal.returns
unfolding merge_reads
returns c =
    let x = c.layer-own.result in
    let y = c.layer-second.result in
    c.merge_reads.ensures x.dims x.norms.now x.entries.now y.norms.now y.entries.now x.flag y.flag ∙ ap₂ merge_reads c.layer-own.ensures.layer c.layer-second.ensures.layer
