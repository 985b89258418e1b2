-- `layer_indexed::deltas::apply_delta` meets its contract.
use Prim.Native.Nat.{◌+◌, ◌*◌}
use mathlib.Core.Path.{◌≡◌}
use mathlib.Core.Bool.{true, false}
use native.Mathlib.Omega.{arith}
use borrow.Author.Rules.{sfits_of}
use mir.Syntax.{w64}
use mir.Val.{to_z, of_z}
use mir.Facts.{to_z-of_z}
use Rattle.countsketch_l2_norm.specs.Sketch.{cell_read, cell_fits, add_cell}
use Rattle.countsketch_l2_norm.specs.inner.Needs.{sketch_of}
use Rattle.countsketch_l2_norm.specs.Estimate.{cells_in_range}
use Rattle.layer.specs.Layer.{hash_by}
use Rattle.layer.specs.inner.Needs.{layer_of, delta}
use Rattle.layer.proofs.Tests.{delta-counted}
use Rattle.layer_indexed.specs.Adding.{delta_reads_in}
use Rattle.layer_indexed.proofs.Grading.{delta-tests, delta_may}
use Rattle.layer_indexed.proofs.Steps.{delta_is}
use Rattle.layer_indexed.proofs.deltas.apply_delta.Goals as goal
use Rattle.layer_indexed.proofs.deltas.apply_delta.Goals.{After-apply_delta, After-count_with_hash-n, Start}

-- the tests of the counter and of the estimate, from the grade
may : (c : Start) → let a = c.args in
    (delta_reads_in a.d (delta a.row a.col a.count a.item true) a.index.now (layer_of a.d a.counters.now a.norms.now a.entries.now a.counts.now a.len false) ≡ true)
    × (cell_fits (a.row * a.d.cols + a.col) a.count a.counters.now ≡ true)
may c =
    let a = c.args in
    delta_may a.d a.row a.col a.count a.item true a.counters.now a.norms.now a.entries.now a.counts.now a.len a.index.now false c.requires.grade

tests : (c : Start) → let a = c.args in
    (cell_read a.d.cols (a.row * a.d.cols + a.col) a.row (sketch_of a.counters.now a.norms.now a.d.rows) ≡ true) × (cells_in_range a.d.cols (hash_by a.item) a.counters.now a.d.rows 0 ≡ true)
tests c =
    let a = c.args in
    delta-tests a.d a.row a.col a.count a.item true a.counters.now a.norms.now a.entries.now a.counts.now a.len a.index.now false (may c).0

-- the sketch after the delta
sketch-now : (c : After-apply_delta) → let a = c.args in
    sketch_of c.apply_delta.new.counters c.apply_delta.new.norms a.d.rows ≡ add_cell (a.row * a.d.cols + a.col) a.row a.count (sketch_of a.counters.now a.norms.now a.d.rows)
sketch-now c = rw (to_z-of_z c.ranges.count) at c.apply_delta.ensures

-- the count as it is handed on
count-back : (c : After-count_with_hash-n) → to_z w64 (of_z w64 c.count_with_hash-n.result) ≡ c.count_with_hash-n.result
count-back c = to_z-of_z {w = w64} (sfits_of c.count_with_hash-n.type_inv)

pub apply_delta-requires : goal.apply_delta-requires
apply_delta-requires c =
    let p = c.requires in
    let h = p.seated.housed in
    rw (to_z-of_z c.ranges.count) (
    record {
      placed = record { shaped = h.shaped; room = omega (arith, h.cells); below = p.below; inside = p.inside };
      pairs = omega (arith, h.norms);
      read = (tests (goal.at.apply_delta-requires c).Start).0;
      fit = (may (goal.at.apply_delta-requires c).Start).1;
    })

pub count_with_hash-n-requires-clause-rows_value : goal.count_with_hash-n-requires-clause-rows_value
count_with_hash-n-requires-clause-rows_value c =
    let a = c.args in
    let p = c.requires in
    let s = (goal.at.count_with_hash-n-requires-clause-rows_value c).Start in
    delta-counted a.d a.row a.col a.count a.item a.counters.now _ a.norms.now _ (sketch-now (goal.at.count_with_hash-n-requires-clause-rows_value c).After-apply_delta)
    p.below p.inside p.seated.housed.cells (may s).1 (tests s).1

pub returns : goal.returns
returns c =
    let a = c.args in
    let t = delta_is a.d a.row a.col a.count a.item a.counters.now a.norms.now a.entries.now a.counts.now a.len a.index.now _ _ _ _ _ c.offer.result c.count_with_hash-n.result
    (sketch-now (goal.at.returns c).After-apply_delta) c.count_with_hash-n.ensures
    (rw (count-back (goal.at.returns c).After-count_with_hash-n) at c.offer.ensures) in
    record {
      every_value = t.0;
      value = t.1.0;
      index_after = t.1.1;
    }
