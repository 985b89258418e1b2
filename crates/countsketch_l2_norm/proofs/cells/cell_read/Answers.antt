-- `countsketch_l2_norm::cells::cell_read` meets its contract.
use Prim.Native.Nat.{ℕ, ◌+◌, ◌*◌, ◌<◌}
use mathlib.Core.Path.{◌≡◌, sym, ap, ◌∙◌}
use lib.ListN.{length, get_or}
use lib.IntN.{pos}
use native.Mathlib.Omega.{arith}
use borrow.Author.Rules.{rules, sfits_of}
use mir.Syntax.{w64}
use mir.Val.{to_z, of_z}
use mir.Facts.{to_z-of_z}
use Rattle.countsketch_l2_norm.proofs.Places.{place-lt}
use Rattle.countsketch_l2_norm.proofs.Norms.{norm-at}
use Rattle.countsketch_l2_norm.specs.Sketch.{cell_at, row_read}
use Rattle.countsketch_l2_norm.proofs.cells.cell_read.Goals as goal
use Rattle.countsketch_l2_norm.proofs.cells.cell_read.Goals.{After-index_of-at}

-- the index is within the counters
inside : (c : After-index_of-at) → c.index_of-at.result < length c.args.counters.now
inside c =
    let a = c.args in
    let p = c.requires.cell_placed in
    rw c.index_of-at.ensures (place-lt a.rows a.cols a.row a.col (length a.counters.now) p.below p.inside p.room)

pub index_of-at-requires : goal.index_of-at-requires
index_of-at-requires c = let p = c.requires.cell_placed in (omega (arith, p.below, p.shaped.few), (p.shaped.wide, p.inside))

pub offset_bounds-counters-at : goal.offset_bounds-counters-at
offset_bounds-counters-at c = let h = inside (goal.at.offset_bounds-counters-at c).After-index_of-at in search rules

pub bounds-counters-at : goal.bounds-counters-at
bounds-counters-at c = let h = inside (goal.at.bounds-counters-at c).After-index_of-at in search rules

pub norm_of-requires : goal.norm_of-requires
norm_of-requires c = (omega (arith, c.requires.cell_placed.below, c.requires.cell_placed.shaped.few), omega (arith, c.requires.cell_placed.below, c.requires.rows_in_bounds))

pub returns : goal.returns
returns c =
    let a = c.args in
    let x = get_or a.counters.now c.index_of-at.result (pos 0) in
    let e : to_z w64 (of_z w64 x) ≡ x = to_z-of_z {w = w64} (sfits_of c.row_read-arg-1.given) in
    rw (e, c.index_of-at.ensures, c.norm_of.ensures) at c.row_read.ensures ∙ ap (λ (n : ℕ). row_read (cell_at a.counters.now (a.row * a.cols + a.col)) n a.cols) (sym (norm-at a.norms.now a.rows a.row c.requires.cell_placed.below))
