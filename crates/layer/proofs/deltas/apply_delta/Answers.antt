-- `layer::deltas::apply_delta` meets its contract.
use Prim.Native.Nat.{◌+◌, ◌*◌}
use mathlib.Core.Path.{◌≡◌, sym, ◌∙◌}
use mathlib.Core.Bool.{true, false, ◌&&◌}
use lib.ListN.{take}
use native.Mathlib.Omega.{arith}
use borrow.Author.Rules.{sfits_of}
use mir.Syntax.{w64}
use mir.Val.{to_z, of_z}
use mir.Facts.{to_z-of_z}
use Rattle.words.specs.Num.{all_in}
use Rattle.words.proofs.Bools.{and_left, and_right}
use Rattle.countsketch_l2_norm.specs.Sketch.{cell_read, cell_fits, add_cell}
use Rattle.countsketch_l2_norm.specs.inner.Needs.{sketch_of}
use Rattle.countsketch_l2_norm.specs.Estimate.{cells_in_range}
use Rattle.layer.specs.Layer.{hash_by}
use Rattle.layer.specs.Delta.{delta_fits}
use Rattle.layer.proofs.Tests.{delta_reads_are, delta-counted}
use Rattle.layer.proofs.Steps.{delta_is}
use Rattle.layer.proofs.deltas.apply_delta.Goals as goal
use Rattle.layer.proofs.deltas.apply_delta.Goals.{After-apply_delta, After-count_with_hash-n, Start}

-- the tests of the counter and of the estimate, from those of the layer
tests : (c : Start) → let a = c.args in
    cell_read a.d.cols (a.row * a.d.cols + a.col) a.row (sketch_of a.counters.now a.norms.now a.d.rows) && cells_in_range a.d.cols (hash_by a.item) a.counters.now a.d.rows 0 ≡ true
tests c =
    let a = c.args in
    and_left (cell_read a.d.cols (a.row * a.d.cols + a.col) a.row (sketch_of a.counters.now a.norms.now a.d.rows) && cells_in_range a.d.cols (hash_by a.item) a.counters.now a.d.rows 0) (all_in (take a.len a.counts.now))
    (sym (delta_reads_are a.d a.row a.col a.count a.item true a.counters.now a.norms.now a.entries.now a.counts.now a.len false) ∙ c.requires.read)

cell-read : (c : Start) → let a = c.args in cell_read a.d.cols (a.row * a.d.cols + a.col) a.row (sketch_of a.counters.now a.norms.now a.d.rows) ≡ true
cell-read c =
    let a = c.args in
    and_left (cell_read a.d.cols (a.row * a.d.cols + a.col) a.row (sketch_of a.counters.now a.norms.now a.d.rows)) (cells_in_range a.d.cols (hash_by a.item) a.counters.now a.d.rows 0) (tests c)

cells-read : (c : Start) → let a = c.args in cells_in_range a.d.cols (hash_by a.item) a.counters.now a.d.rows 0 ≡ true
cells-read c =
    let a = c.args in
    and_right (cell_read a.d.cols (a.row * a.d.cols + a.col) a.row (sketch_of a.counters.now a.norms.now a.d.rows)) (cells_in_range a.d.cols (hash_by a.item) a.counters.now a.d.rows 0) (tests c)

cell-fits : (c : Start) → let a = c.args in cell_fits (a.row * a.d.cols + a.col) a.count a.counters.now ≡ true
unfolding delta_fits
cell-fits c = c.requires.fit

-- the sketch after the delta
sketch-now : (c : After-apply_delta) → let a = c.args in
    sketch_of c.apply_delta.new.counters c.apply_delta.new.norms a.d.rows ≡ add_cell (a.row * a.d.cols + a.col) a.row a.count (sketch_of a.counters.now a.norms.now a.d.rows)
sketch-now c = rw (to_z-of_z c.ranges.count) at c.apply_delta.ensures

-- the count as it is handed on
count-back : (c : After-count_with_hash-n) → to_z w64 (of_z w64 c.count_with_hash-n.result) ≡ c.count_with_hash-n.result
count-back c = to_z-of_z {w = w64} (sfits_of c.count_with_hash-n.type_inv)

-- what a lemma proves of the clauses together, under each one's name
by_clause : {A B : Type 0} → A × B → record { every_value : A; value : B }
by_clause p = record { every_value = p.0; value = p.1 }

pub apply_delta-requires : goal.apply_delta-requires
apply_delta-requires c =
    let p = c.requires in
    let e = to_z-of_z c.ranges.count in
    rw e (
    record {
      placed = record { shaped = p.housed.shaped; room = omega (arith, p.housed.cells); below = p.below; inside = p.inside };
      pairs = omega (arith, p.housed.norms);
      read = cell-read (goal.at.apply_delta-requires c).Start;
      fit = cell-fits (goal.at.apply_delta-requires c).Start;
    })

pub count_with_hash-n-requires-clause-rows_value : goal.count_with_hash-n-requires-clause-rows_value
count_with_hash-n-requires-clause-rows_value c =
    let a = c.args in
    let p = c.requires in
    let s = (goal.at.count_with_hash-n-requires-clause-rows_value c).Start in
    delta-counted a.d a.row a.col a.count a.item a.counters.now _ a.norms.now _ (sketch-now (goal.at.count_with_hash-n-requires-clause-rows_value c).After-apply_delta)
    p.below p.inside p.housed.cells (cell-fits s) (cells-read s)

pub returns : goal.returns
returns c = by_clause (let a = c.args in
    delta_is a.d a.row a.col a.count a.item a.counters.now a.norms.now a.entries.now a.counts.now a.len _ _ _ _ c.offer.result c.count_with_hash-n.result
    (sketch-now (goal.at.returns c).After-apply_delta) c.count_with_hash-n.ensures
    (rw (count-back (goal.at.returns c).After-count_with_hash-n) at c.offer.ensures.entries_after) (rw (count-back (goal.at.returns c).After-count_with_hash-n) at c.offer.ensures.counts_after) (rw (count-back (goal.at.returns c).After-count_with_hash-n) at c.offer.ensures.value))
