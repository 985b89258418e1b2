-- `countsketch_l2_norm::cells::add_cell` meets its contract.
use mir.Syntax.{w64}
use mathlib.Core.Path.{◌≡◌, ap, ◌∙◌}
use lib.IntN.{◌+ℤ◌}
use native.Mathlib.Omega.{arith}
use borrow.Author.Rules.{sfits_of}
use mir.Facts.{to_z-of_z}
use Rattle.countsketch_l2_norm.specs.inner.Needs.{set_norm}
use Rattle.countsketch_l2_norm.specs.Sketch.{cell_at}
use Rattle.words.proofs.Signed.{back, fits, sum-within}
use Rattle.words.proofs.Squares.{capped_le}
use Rattle.words.specs.Num.{capped}
use Rattle.countsketch_l2_norm.proofs.cells.add_cell.Goals as goal
use Rattle.countsketch_l2_norm.proofs.cells.add_cell.Goals.{After-capped_square-less, After-capped_square-more}

-- what the two squares are
old-square : (c : After-capped_square-less) → c.capped_square-less.result ≡ capped (cell_at c.args.counters.now c.args.at)
old-square c = rw (to_z-of_z {w = w64} (sfits_of c.old-1.given)) at c.capped_square-less.ensures

new-square : (c : After-capped_square-more) → c.capped_square-more.result ≡ capped (cell_at c.args.counters.now c.args.at +ℤ c.args.delta)
new-square c =
    rw (sum-within (cell_at c.args.counters.now c.args.at) c.args.delta c.requires.cell_in c.ranges.delta c.requires.sum_in) at c.capped_square-more.ensures

pub overflow_add-new : goal.overflow_add-new
overflow_add-new c =
    let x = cell_at c.args.counters.now c.args.at in
    rw (back x (omega (arith, c.requires.cell_in)), to_z-of_z c.ranges.delta) (fits (x +ℤ c.args.delta) (omega (arith, c.requires.sum_in)))

pub norm_of-requires : goal.norm_of-requires
norm_of-requires c = (c.requires.few, c.requires.pair)

pub moved-moved-requires : goal.moved-moved-requires
moved-moved-requires c =
    rw (c.norm_of.ensures, old-square (goal.at.moved-moved-requires c).After-capped_square-less, new-square (goal.at.moved-moved-requires c).After-capped_square-more) (record {
      bound = c.requires.holds;
      bound_2 = omega (arith, c.requires.norm_in, capped_le (cell_at c.args.counters.now c.args.at +ℤ c.args.delta));
    })

pub put_norm-requires : goal.put_norm-requires
put_norm-requires c = (c.requires.few, c.requires.pair)

pub returns : goal.returns
returns c =
    let x = cell_at c.args.counters.now c.args.at in record {
      counters_after = rw (sum-within x c.args.delta c.requires.cell_in c.ranges.delta c.requires.sum_in);
      norms_after = c.put_norm.ensures ∙ ap (set_norm c.args.norms.now c.args.r) (rw (c.norm_of.ensures, old-square (goal.at.returns c).After-capped_square-less, new-square (goal.at.returns c).After-capped_square-more) at c.moved-moved.ensures);
    }
