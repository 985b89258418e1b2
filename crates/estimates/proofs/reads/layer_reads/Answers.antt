-- `estimates::reads::layer_reads` meets its contract.
use Rattle.std.proofs.Common.{◌≡◌, sym, ◌∙◌, true, not, ◌&&◌, ◌||◌, arith}
use lib.ListN.{take}
use Rattle.words.specs.Num.{all_in}
use Rattle.words.proofs.Bools.{never}
use Rattle.countsketch_l2_norm.specs.Norms.{norms_of}
use Rattle.countsketch_l2_norm.specs.L2 as norm
use Rattle.layer.specs.inner.Gather.{items_of}
use Rattle.layout.specs.inner.Lending.{layer_read}
use Rattle.estimates.specs.Sums.{items_read, layer_reads}
use Rattle.estimates.proofs.Layers.{reads_are}
use Rattle.estimates.proofs.reads.layer_reads.Goals as goal
use Rattle.estimates.proofs.reads.layer_reads.Goals.{Start, Then-all_read, then-counts_in_range, else-counts_in_range}

-- the definition in the slices
asked : (c : Start) → let y = c.args.layer in layer_reads c.args.terminal y.dims (layer_read y)
    ≡ (all_in (take y.len y.counts.now) && items_read y.dims y.cells.now (items_of y.entries.now y.len) && (not c.args.terminal || norm.norms_in_range y.dims.cols (norms_of y.norms.now y.dims.rows)))
asked c =
    let y = c.args.layer in
    reads_are c.args.terminal y.dims y.cells.now y.norms.now y.entries.now y.counts.now y.len y.flag (omega (arith, c.requires.housed.seats, c.requires.housed.used))

-- both were found in range
first : (c : Then-all_read) → let y = c.args.layer in (all_in (take y.len y.counts.now) ≡ true) × (items_read y.dims y.cells.now (items_of y.entries.now y.len) ≡ true)
first c =
    elim c.if-counts_in_range.branch [
      | then-counts_in_range w ↦ (sym c.counts_in_range.ensures ∙ w.if-counts_in_range.true, sym (w.value-is ∙ w.all_read.ensures) ∙ c.if-all_read.true)
      | else-counts_in_range w ↦ absurd (never (sym (w.value-is ∙ w.if-counts_in_range.false) ∙ c.if-all_read.true))
    ]

pub returns-then-not-terminal : goal.returns-then-not-terminal
returns-then-not-terminal c =
    let f = first (goal.at.returns-then-not-terminal c).Then-all_read in
    sym (asked (goal.at.returns-then-not-terminal c).Start ∙ rw (f.0, f.1, c.if-not-terminal.true))

pub returns-else-not-terminal : goal.returns-else-not-terminal
returns-else-not-terminal c =
    let f = first (goal.at.returns-else-not-terminal c).Then-all_read in
    c.norms_in.ensures ∙ sym (asked (goal.at.returns-else-not-terminal c).Start ∙ rw (f.0, f.1, c.if-not-terminal.false))

pub returns-else-all_read : goal.returns-else-all_read
returns-else-all_read c =
    elim c.if-counts_in_range.branch [
      | then-counts_in_range w ↦
          c.if-all_read.false
          ∙ sym (asked (goal.at.returns-else-all_read c).Start ∙ rw (sym c.counts_in_range.ensures ∙ w.if-counts_in_range.true, sym (w.value-is ∙ w.all_read.ensures) ∙ c.if-all_read.false))
      | else-counts_in_range w ↦ c.if-all_read.false ∙ sym (asked (goal.at.returns-else-all_read c).Start ∙ rw (sym c.counts_in_range.ensures ∙ w.if-counts_in_range.false))
    ]
