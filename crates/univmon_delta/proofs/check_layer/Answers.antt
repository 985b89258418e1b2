-- `univmon_delta::check_layer` meets its contract.
use Prim.Native.Nat.{◌+◌, ◌*◌}
use mathlib.Core.Path.{◌≡◌, sym, ap₂, ◌∙◌}
use mathlib.Core.Bool.{Bool, true}
use native.Mathlib.Omega.{arith}
use mir.Facts.{to_z-of_z}
use Rattle.words.specs.Num.{in_range}
use Rattle.layout.specs.Slices.{view}
use Rattle.layout.specs.Lending.{lent_read}
use Rattle.layer.specs.declared.Dims.{Dims}
use Rattle.layer.specs.Layer.{Layer}
use Rattle.layer.specs.Delta.{Delta, delta_reads, delta_fits}
use Rattle.layer.specs.inner.Needs.{delta}
use Rattle.countsketch_l2_norm.specs.Sketch.{cell_at}
use Rattle.layout.specs.State.{dims_at, layer_at}
use Rattle.layout.specs.Records.{item_at}
use Rattle.univmon_delta.proofs.Arrivals.{judged_unread, judged_unfit, judged_well, counter_read}
use Rattle.univmon_delta.proofs.check_layer.Goals as goal
use Rattle.univmon_delta.proofs.check_layer.Goals.{After-delta_fits, After-delta_reads, Else-not-delta_reads, Start}

-- the layer's dimensions, the layer, and the delta
abbrev dims_here : Start → Dims
dims_here c = dims_at c.args.state.header.now.shape c.args.l

abbrev layer_here : Start → Layer
layer_here c = layer_at (view (lent_read c.args.state)) c.args.l

abbrev delta-of : Start → Bool → Delta
delta-of c every = let a = c.args in delta a.row a.col a.count (item_at a.«record».now a.l) every

-- what the test of the layer's reads found
read_is : (c : After-delta_reads) → (every : Bool) → let s = (goal.at.After-delta_reads c).Start in
    c.delta_reads.result ≡ delta_reads (dims_here s) (delta-of s every) (layer_here s)
read_is c every =
    let s = (goal.at.After-delta_reads c).Start in
    let y = c.layer-here.result in
    rw c.item_in-item.ensures at (c.delta_reads.ensures y.entries.now y.flag every c.args.count)
    ∙ ap₂ (λ (d : Dims) (z : Layer). delta_reads d (delta-of s every) z) c.layer-here.ensures.dims c.layer-here.ensures.layer

-- the counter was found in range
counter-in : (c : Else-not-delta_reads) → let y = c.layer-here.result in in_range (cell_at y.cells.now (c.args.row * y.dims.cols + c.args.col)) ≡ true
counter-in c =
    let a = c.args in
    let y = c.layer-here.result in
    counter_read y.dims a.row a.col a.count c.item_in-item.result true y.cells.now y.norms.now y.entries.now y.counts.now y.len y.flag
    (sym (c.delta_reads.ensures y.entries.now y.flag true a.count) ∙ c.if-not-delta_reads.false)

-- what the test of the counter's sum found
fit_is : (c : After-delta_fits) → (every : Bool) → let s = (goal.at.After-delta_fits c).Start in
    c.delta_fits.result ≡ delta_fits (dims_here s) (delta-of s every) (layer_here s)
fit_is c every =
    let s = (goal.at.After-delta_fits c).Start in
    let a = c.args in
    let y = c.layer-here.result in
    rw (to_z-of_z c.ranges.count) at (c.delta_fits.ensures y.norms.now y.entries.now y.counts.now y.len y.flag every (item_at a.«record».now a.l))
    ∙ ap₂ (λ (d : Dims) (z : Layer). delta_fits d (delta-of s every) z) c.layer-here.ensures.dims c.layer-here.ensures.layer

pub item_in-item-requires : goal.item_in-item-requires
item_in-item-requires c = let p = c.requires in (omega (arith, p.inside, p.standing.accepted.few), omega (arith, p.inside, p.recorded))

pub delta_reads-requires : goal.delta_reads-requires
delta_reads-requires c = let e = c.layer-here.ensures in record { housed = e.housed; row_lt_rows = rw e.dims (c.requires.below, c.requires.within) }

pub returns-then-not-delta_reads : goal.returns-then-not-delta_reads
returns-then-not-delta_reads c =
    λ every.
    let s = (goal.at.returns-then-not-delta_reads c).Start in
    judged_unread (dims_here s) (delta-of s every) (layer_here s) (sym (read_is (goal.at.returns-then-not-delta_reads c).After-delta_reads every) ∙ c.if-not-delta_reads.true)

pub delta_fits-requires : goal.delta_fits-requires
delta_fits-requires c =
    let e = c.layer-here.ensures in
    record {
      row_lt_rows = rw e.dims (c.requires.below, c.requires.within);
      shaped = e.housed.shaped;
      counters_len = e.housed.cells;
      col_value = counter-in (goal.at.delta_fits-requires c).Else-not-delta_reads;
    }

pub returns-then-delta_fits : goal.returns-then-delta_fits
returns-then-delta_fits c =
    λ every.
    let s = (goal.at.returns-then-delta_fits c).Start in
    judged_well (dims_here s) (delta-of s every) (layer_here s) (sym (read_is (goal.at.returns-then-delta_fits c).After-delta_reads every) ∙ c.if-not-delta_reads.false) (sym (fit_is (goal.at.returns-then-delta_fits c).After-delta_fits every) ∙ c.if-delta_fits.true)

pub returns : goal.returns
returns c =
    λ every.
    let s = (goal.at.returns c).Start in
    judged_unfit (dims_here s) (delta-of s every) (layer_here s) (sym (read_is (goal.at.returns c).After-delta_reads every) ∙ c.if-not-delta_reads.false) (sym (fit_is (goal.at.returns c).After-delta_fits every) ∙ c.if-delta_fits.false)
