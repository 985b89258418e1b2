-- `layer_indexed::deltas::delta_grade` meets its contract.
use Prim.Native.Nat.{◌+◌, ◌*◌}
use mathlib.Core.Path.{◌≡◌, refl, sym, ◌∙◌}
use mathlib.Core.Bool.{Bool, true, false, cond, not}
use native.Mathlib.Omega.{arith}
use borrow.Author.Rules.{sfits_of}
use mir.Syntax.{w64}
use mir.Facts.{to_z-of_z}
use Rattle.words.specs.Num.{in_range}
use Rattle.countsketch_l2_norm.specs.Sketch.{cell_at, cell_read, cell_fits}
use Rattle.countsketch_l2_norm.specs.inner.Needs.{sketch_of}
use Rattle.countsketch_l2_norm.specs.Estimate.{cells_in_range}
use Rattle.countsketch_l2_norm.proofs.After.{read_cell}
use Rattle.layer.specs.Layer.{hash_by}
use Rattle.layer.specs.inner.Needs.{layer_of, delta}
use Rattle.layer_indexed.specs.Adding.{delta_reads_in}
use Rattle.layer_indexed.specs.inner.Needs.{delta_grade}
use Rattle.layer_indexed.proofs.Grading.{same-slices, delta-tests, delta-unread, delta_unfit, delta_by-moves}
use Rattle.layer_indexed.proofs.Seats.{small_of}
use Rattle.layer_indexed.proofs.deltas.delta_grade.Goals as goal
use Rattle.layer_indexed.proofs.deltas.delta_grade.Goals.{After-cell_fits, After-count_behind-n, After-try_offer, Else-not-cell_fits, Else-not-delta_reads}

-- what is read is in range
is_read : (c : Else-not-delta_reads) (flag every : Bool) → let a = c.args in
    true ≡ delta_reads_in a.d (delta a.row a.col a.count a.item every) a.index.now (layer_of a.d a.counters.now a.norms.now a.entries.now a.counts.now a.len flag)
is_read c flag every = sym (c.if-not-delta_reads.false) ∙ c.delta_reads.ensures flag every c.args.count

tests : (c : Else-not-delta_reads) → let a = c.args in
    (cell_read a.d.cols (a.row * a.d.cols + a.col) a.row (sketch_of a.counters.now a.norms.now a.d.rows) ≡ true) × (cells_in_range a.d.cols (hash_by a.item) a.counters.now a.d.rows 0 ≡ true)
tests c =
    let a = c.args in
    delta-tests a.d a.row a.col a.count a.item true a.counters.now a.norms.now a.entries.now a.counts.now a.len a.index.now true (sym (is_read c true true))

cell_in_lem : (c : Else-not-delta_reads) → let a = c.args in in_range (cell_at a.counters.now (a.row * a.d.cols + a.col)) ≡ true
cell_in_lem c =
    let a = c.args in
    read_cell a.d.cols (a.row * a.d.cols + a.col) a.row (sketch_of a.counters.now a.norms.now a.d.rows) (tests c).0

fits-is : (c : After-cell_fits) → let a = c.args in c.cell_fits.result ≡ cell_fits (a.row * a.d.cols + a.col) a.count a.counters.now
fits-is c = rw (to_z-of_z c.ranges.count) at c.cell_fits.ensures

-- what was stored and tried is taken back
taken_back : (c : After-try_offer) → let a = c.args in
    (c.count_behind-n.new.counters ≡ a.counters.now) × ((c.try_offer.new.entries ≡ a.entries.now) × ((c.try_offer.new.counts ≡ a.counts.now) × (c.try_offer.new.index ≡ a.index.now)))
taken_back c =
    let a = c.args in
    let p = c.requires.seated in
    let o = c.try_offer in
    let s = same-slices a.entries.now a.counts.now _ _ (omega (arith, p.words, p.housed.seats)) (omega (arith, o.auto.entries, o.auto.counts, p.words, p.housed.seats)) o.ensures.counts_unchanged in
    (c.count_behind-n.ensures.counters_unchanged, (s.0, (s.1, o.ensures.index_unchanged)))

-- the grade by what the trial says
graded : (c : After-try_offer) (moves : Bool) → let a = c.args in c.try_offer.result ≡ moves → (flag every : Bool)
    → cond (not moves) 3 4
    ≡ delta_grade a.d (delta a.row a.col a.count a.item every) a.index.now (layer_of a.d a.counters.now a.norms.now a.entries.now a.counts.now a.len flag)
graded c moves m flag every =
    let a = c.args in
    delta_by-moves a.d a.row a.col a.count a.item every a.counters.now a.norms.now a.entries.now a.counts.now a.len a.index.now flag
    c.count_behind-n.result moves (sym c.if-not-delta_reads.false ∙ c.delta_reads.ensures flag every c.args.count) (sym c.if-not-cell_fits.false ∙ rw (to_z-of_z c.ranges.count) at c.cell_fits.ensures) (rw (to_z-of_z c.ranges.count) at c.count_behind-n.ensures.value)
    (sym m ∙ rw (to_z-of_z {w = w64} (sfits_of c.count_behind-n.type_inv)) at c.try_offer.ensures.value)

pub returns-then-not-delta_reads : goal.returns-then-not-delta_reads
returns-then-not-delta_reads c =
    let a = c.args in record {
      value = λ flag every.
          delta-unread a.d a.row a.col a.count a.item every a.counters.now a.norms.now a.entries.now a.counts.now a.len a.index.now flag
          (sym (c.if-not-delta_reads.true) ∙ c.delta_reads.ensures flag every a.count);
      counters_unchanged = (refl, (refl, (refl, refl)));
    }

pub cell_fits-requires-clause-col_value : goal.cell_fits-requires-clause-col_value
cell_fits-requires-clause-col_value c = cell_in_lem (goal.at.cell_fits-requires-clause-col_value c).Else-not-delta_reads

pub returns-then-not-cell_fits : goal.returns-then-not-cell_fits
returns-then-not-cell_fits c =
    let a = c.args in record {
      value = λ flag every.
          delta_unfit a.d a.row a.col a.count a.item every a.counters.now a.norms.now a.entries.now a.counts.now a.len a.index.now flag
          (is_read (goal.at.returns-then-not-cell_fits c).Else-not-delta_reads flag every) (sym (c.if-not-cell_fits.true) ∙ fits-is (goal.at.returns-then-not-cell_fits c).After-cell_fits);
      counters_unchanged = (refl, (refl, (refl, refl)));
    }

pub count_behind-n-requires : goal.count_behind-n-requires
count_behind-n-requires c =
    let h = c.requires.seated.housed in
    rw (to_z-of_z c.ranges.count) (
    record {
      shaped = h.shaped;
      cells = h.cells;
      below = c.requires.row_lt_rows.0;
      inside = c.requires.row_lt_rows.1;
      read = (tests (goal.at.count_behind-n-requires c).Else-not-delta_reads).1;
      cell_in = cell_in_lem (goal.at.count_behind-n-requires c).Else-not-delta_reads;
      fit = sym (sym c.if-not-cell_fits.false ∙ fits-is (goal.at.count_behind-n-requires c).After-cell_fits);
    })

pub try_offer-requires-clause-small : goal.try_offer-requires-clause-small
try_offer-requires-clause-small c = small_of c.args.d c.requires.seated

pub returns-then-try_offer : goal.returns-then-try_offer
returns-then-try_offer c = record {
  value = graded (goal.at.returns-then-try_offer c).After-try_offer true c.if-try_offer.true;
  counters_unchanged = taken_back (goal.at.returns-then-try_offer c).After-try_offer;
}

pub returns : goal.returns
returns c = record {
  value = graded (goal.at.returns c).After-try_offer false c.if-try_offer.false;
  counters_unchanged = taken_back (goal.at.returns c).After-try_offer;
}
