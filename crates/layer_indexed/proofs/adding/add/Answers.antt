-- `layer_indexed::adding::add` meets its contract.
use mathlib.Core.Path.{◌≡◌}
use mathlib.Core.Bool.{true, false}
use native.Mathlib.Omega.{arith}
use borrow.Author.Rules.{sfits_of}
use mir.Syntax.{w64}
use mir.Val.{to_z, of_z}
use mir.Facts.{to_z-of_z}
use Rattle.countsketch_l2_norm.specs.Sketch.{rows_read, rows_fit}
use Rattle.countsketch_l2_norm.specs.inner.Needs.{sketch_of}
use Rattle.layer.specs.Layer.{hash_by}
use Rattle.layer_indexed.proofs.Grading.{add_tests}
use Rattle.layer_indexed.proofs.Steps.{add_is}
use Rattle.layer_indexed.proofs.adding.add.Goals as goal
use Rattle.layer_indexed.proofs.adding.add.Goals.{After-update_and_count-count, Start}

-- the tests of the rows, from the grade
rows-are-ready : (c : Start) → let a = c.args in
    (rows_read a.d.cols (hash_by a.item) (sketch_of a.counters.now a.norms.now a.d.rows) a.d.rows 0 ≡ true) × (rows_fit a.d.cols (hash_by a.item) a.weight a.counters.now a.d.rows 0 ≡ true)
rows-are-ready c =
    let a = c.args in
    add_tests a.d a.item a.weight a.counters.now a.norms.now a.entries.now a.counts.now a.len a.index.now false c.requires.grade

-- the count as it is handed on
count-back : (c : After-update_and_count-count) → to_z w64 (of_z w64 c.update_and_count-count.result) ≡ c.update_and_count-count.result
count-back c = to_z-of_z {w = w64} (sfits_of c.update_and_count-count.type_inv)

pub update_and_count-count-requires : goal.update_and_count-count-requires
update_and_count-count-requires c =
    let p = c.requires in
    let h = p.seated.housed in
    record { shaped = h.shaped; room = omega (arith, h.cells); pairs = omega (arith, h.norms); light = p.light; read = (rows-are-ready (goal.at.update_and_count-count-requires c).Start).0; fit = (rows-are-ready (goal.at.update_and_count-count-requires c).Start).1 }

pub returns : goal.returns
returns c =
    let a = c.args in
    let u = c.update_and_count-count in
    let t = add_is a.d a.item a.weight a.counters.now a.norms.now a.entries.now a.counts.now a.len a.index.now _ _ _ _ _ c.offer.result u.result u.ensures.rows_after u.ensures.value
    (rw (count-back (goal.at.returns c).After-update_and_count-count) at c.offer.ensures) in
    record {
      result_value = t.0;
      value = t.1.0;
      index_after = t.1.1;
    }
