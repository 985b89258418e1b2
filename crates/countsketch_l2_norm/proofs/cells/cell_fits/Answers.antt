-- `countsketch_l2_norm::cells::cell_fits` meets its contract.
use Prim.Native.Nat.{◌+◌, ◌*◌, ◌<◌}
use mathlib.Core.Path.{◌≡◌, ap, ◌∙◌}
use lib.ListN.{length}
use native.Mathlib.Omega.{arith}
use borrow.Author.Rules.{rules, sfits_of}
use mir.Syntax.{w64}
use mir.Val.{to_z, of_z}
use mir.Facts.{to_z-of_z}
use Rattle.countsketch_l2_norm.proofs.Places.{place-lt}
use Rattle.countsketch_l2_norm.specs.Sketch.{cell_at}
use Rattle.words.proofs.Squares.{range_bound}
use Rattle.countsketch_l2_norm.proofs.cells.cell_fits.Goals as goal
use Rattle.countsketch_l2_norm.proofs.cells.cell_fits.Goals.{After-index_of-at, After-sum_in_range-arg-1}

-- the index is within the counters
inside : (c : After-index_of-at) → c.index_of-at.result < length c.args.counters.now
inside c =
    let a = c.args in
    let p = c.requires.cell_placed in
    rw c.index_of-at.ensures (place-lt a.rows a.cols a.row a.col (length a.counters.now) p.below p.inside p.room)

-- the counter as it is handed on
counter-is : (c : After-sum_in_range-arg-1) → let a = c.args in
    to_z w64 (of_z w64 (cell_at a.counters.now c.index_of-at.result)) ≡ cell_at a.counters.now (a.row * a.cols + a.col)
counter-is c = to_z-of_z {w = w64} (sfits_of c.sum_in_range-arg-1.given) ∙ ap (cell_at c.args.counters.now) c.index_of-at.ensures

pub index_of-at-requires : goal.index_of-at-requires
index_of-at-requires c = let p = c.requires.cell_placed in (omega (arith, p.below, p.shaped.few), (p.shaped.wide, p.inside))

pub offset_bounds-counters-at : goal.offset_bounds-counters-at
offset_bounds-counters-at c = let h = inside (goal.at.offset_bounds-counters-at c).After-index_of-at in search rules

pub bounds-counters-at : goal.bounds-counters-at
bounds-counters-at c = let h = inside (goal.at.bounds-counters-at c).After-index_of-at in search rules

pub sum_in_range-requires : goal.sum_in_range-requires
sum_in_range-requires c = rw (counter-is (goal.at.sum_in_range-requires c).After-sum_in_range-arg-1) (range_bound _ c.requires.col_value)

pub returns : goal.returns
returns c = rw (counter-is (goal.at.returns c).After-sum_in_range-arg-1, to_z-of_z c.ranges.count) at c.sum_in_range.ensures
