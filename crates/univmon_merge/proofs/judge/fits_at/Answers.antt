-- `univmon_merge::judge::fits_at` meets its contract.
use Prim.Native.Nat.{◌*◌}
use mathlib.Core.Path.{sym, ap, ap₂, ◌∙◌}
use Rattle.header.specs.declared.Shape.{Shape}
use Rattle.layer.specs.declared.Dims.{Dims}
use Rattle.layer.specs.Merge.{merge_reads, merge_fits}
use Rattle.layout.specs.State.{dims_at}
use Rattle.layout.specs.inner.Lending.{layer_read}
use Rattle.univmon_merge.proofs.Pairing.{cells_read}
use Rattle.univmon_merge.proofs.judge.fits_at.Goals as goal

pub merge_fits-requires : goal.merge_fits-requires
merge_fits-requires c =
    let own = c.layer-own.ensures in
    let second = c.layer-second.ensures in
    let read = cells_read (layer_read c.layer-own.result) (layer_read c.layer-second.result) (ap₂ merge_reads own.layer second.layer ∙ c.requires.read) in
    record {
      counters_len = own.housed.cells ∙ ap (λ (d : Dims). d.rows * d.cols) (own.dims ∙ ap (λ (sh : Shape). dims_at sh c.args.l) (sym c.requires.paired.same) ∙ sym second.dims) ∙ sym second.housed.cells;
      counters_value = read;
    }

pub returns : goal.returns
unfolding merge_fits
returns c =
    let x = c.layer-own.result in
    let y = c.layer-second.result in
    c.merge_fits.ensures x.dims x.norms.now x.entries.now y.norms.now y.entries.now x.counts.now y.counts.now x.len y.len x.flag y.flag ∙ ap₂ merge_fits c.layer-own.ensures.layer c.layer-second.ensures.layer
