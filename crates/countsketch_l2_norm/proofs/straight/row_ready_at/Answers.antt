-- `countsketch_l2_norm::straight::row_ready_at` meets its contract.
use mathlib.Core.Path.{◌≡◌}
use borrow.Author.Rules.{sfits_of}
use mir.Syntax.{w64}
use mir.Val.{to_z, of_z}
use mir.Facts.{to_z-of_z}
use Rattle.countsketch_l2_norm.specs.Sketch.{cell_at}
use Rattle.countsketch_l2_norm.proofs.straight.row_ready_at.Goals as goal

pub returns : goal.returns
returns c =
    let x = cell_at c.args.counters.now c.args.at in
    let e : to_z w64 (of_z w64 x) ≡ x = to_z-of_z {w = w64} (sfits_of c.row_ready-arg-1.given) in
    rw (e, c.norm_of.ensures) at c.row_ready.ensures
