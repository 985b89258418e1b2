-- `layer_indexed::deltas::count_behind` meets its contract.
use Prim.Native.Nat.{◌+◌, ◌*◌, ◌<◌}
use mathlib.Core.Path.{◌≡◌, ◌∙◌}
use lib.ListN.{length}
use lib.IntN.{◌+ℤ◌}
use native.Mathlib.Omega.{arith}
use borrow.Author.Rules.{sfits_of}
use mir.Syntax.{w64}
use mir.Val.{to_z, of_z}
use mir.Facts.{to_z-of_z}
use Rattle.countsketch_l2_norm.specs.Sketch.{cell_at}
use Rattle.countsketch_l2_norm.proofs.Places.{place-lt}
use Rattle.layer.specs.Layer.{hash_by}
use Rattle.layer.proofs.Tests.{cells-set}
use Rattle.layer_indexed.proofs.Grading.{counter_back}
use Rattle.words.proofs.Signed.{back, fits, sum-within}
use Rattle.words.proofs.Squares.{range_bound}
use Rattle.layer_indexed.proofs.deltas.count_behind.Goals as goal
use Rattle.layer_indexed.proofs.deltas.count_behind.Goals.{Start}

inside : (c : Start) → let a = c.args in a.row * a.d.cols + a.col < length a.counters.now
inside c =
    let a = c.args in
    let p = c.requires in
    place-lt a.d.rows a.d.cols a.row a.col (length a.counters.now) p.below p.inside (omega (arith, p.cells))

-- the sum is a count
sum_back : (c : Start) → let a = c.args in let x = cell_at a.counters.now (a.row * a.d.cols + a.col) in
    to_z w64 (of_z w64 (to_z w64 (of_z w64 x) +ℤ to_z w64 (of_z w64 a.count))) ≡ x +ℤ a.count
sum_back c =
    let a = c.args in
    let x = cell_at a.counters.now (a.row * a.d.cols + a.col) in
    sum-within x a.count (range_bound x c.requires.cell_in) c.ranges.count (range_bound (x +ℤ a.count) c.requires.fit)

pub overflow_add-counters : goal.overflow_add-counters
overflow_add-counters c =
    let a = c.args in
    let x = cell_at a.counters.now (a.row * a.d.cols + a.col) in
    rw (back x (omega (arith, range_bound x c.requires.cell_in)), to_z-of_z c.ranges.count) (fits (x +ℤ a.count) (omega (arith, range_bound (x +ℤ a.count) c.requires.fit)))

pub count_with_hash-n-requires-clause-rows_value : goal.count_with_hash-n-requires-clause-rows_value
count_with_hash-n-requires-clause-rows_value c =
    let a = c.args in
    let at = a.row * a.d.cols + a.col in
    rw (sum_back (goal.at.count_with_hash-n-requires-clause-rows_value c).Start)
    (cells-set a.d.cols (hash_by a.item) a.counters.now at (cell_at a.counters.now at +ℤ a.count) a.d.rows 0 (inside (goal.at.count_with_hash-n-requires-clause-rows_value c).Start) c.requires.fit c.requires.read)

pub returns : goal.returns
returns c =
    let a = c.args in
    let x = cell_at a.counters.now (a.row * a.d.cols + a.col) in record {
      value = to_z-of_z {w = w64} (sfits_of c.count_with_hash-n.type_inv) ∙ rw (sum_back (goal.at.returns c).Start) at c.count_with_hash-n.ensures;
      counters_unchanged = counter_back a.counters.now (a.row * a.d.cols + a.col) _ _ (back x (omega (arith, range_bound x c.requires.cell_in)));
    }
