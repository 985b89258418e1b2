-- `countsketch_l2_norm::cells::apply_delta` meets its contract.
use Prim.Native.Nat.{ℕ, ◌+◌, ◌*◌}
use mathlib.Core.Path.{sym, ap, ◌∙◌}
use lib.ListN.{length}
use native.Mathlib.Omega.{arith}
use mir.Facts.{to_z-of_z}
use Rattle.countsketch_l2_norm.proofs.Places.{place-lt}
use Rattle.countsketch_l2_norm.proofs.Rows.{cell-ready, cell_stored}
use Rattle.countsketch_l2_norm.proofs.Norms.{norm-at}
use Rattle.countsketch_l2_norm.specs.Sketch.{cell_at, row_read}
use Rattle.countsketch_l2_norm.proofs.cells.apply_delta.Goals as goal

pub index_of-at-requires : goal.index_of-at-requires
index_of-at-requires c = let p = c.requires.placed in (omega (arith, p.below, p.shaped.few), (p.shaped.wide, p.inside))

pub add_cell-requires : goal.add_cell-requires
add_cell-requires c =
    let a = c.args in
    let d = c.requires in
    let p = d.placed in
    rw (c.index_of-at.ensures, to_z-of_z c.ranges.count)
    (cell-ready a.rows a.cols (a.row * a.cols + a.col) a.row a.count a.counters.now a.norms.now (place-lt a.rows a.cols a.row a.col (length a.counters.now) p.below p.inside p.room) p.below p.shaped.few p.shaped.wide d.pairs
    (ap (λ (n : ℕ). row_read (cell_at a.counters.now (a.row * a.cols + a.col)) n a.cols) (sym (norm-at a.norms.now a.rows a.row p.below)) ∙ d.read) d.fit)

pub returns : goal.returns
returns c =
    let a = c.args in
    let e = rw (c.index_of-at.ensures, to_z-of_z c.ranges.count) at c.add_cell.ensures.counters_after in
    let n = rw (c.index_of-at.ensures, to_z-of_z c.ranges.count) at c.add_cell.ensures.norms_after in
    rw (e, n) (cell_stored a.rows (a.row * a.cols + a.col) a.row a.count a.counters.now a.norms.now c.requires.placed.below c.requires.pairs)
