-- `countsketch_l2_norm::update::update_weighted_with_hash` meets its contract.
use mathlib.Core.Path.{◌≡◌, ◌∙◌}
use lib.IntN.{pos}
use native.Mathlib.Omega.{arith}
use borrow.Author.Rules.{sfits_of}
use mir.Syntax.{w64}
use mir.Val.{to_z, of_z}
use mir.Facts.{to_z-of_z}
use Rattle.countsketch_l2_norm.proofs.Places.{place_asks}
use Rattle.countsketch_l2_norm.proofs.Rows.{start-rows, ready-row, row_step, end_rows}
use Rattle.matrix_storage.specs.Bits.{signed, hash_of}
use Rattle.countsketch_l2_norm.proofs.update.update_weighted_with_hash.Goals as goal
use Rattle.countsketch_l2_norm.proofs.update.update_weighted_with_hash.Goals.{After-delta_at-delta, Start}

delta_is : (c : After-delta_at-delta) → to_z w64 (of_z w64 c.delta_at-delta.result) ≡ signed (hash_of c.args.high c.args.low) c.loop-r.r (pos c.args.weight)
delta_is c = to_z-of_z {w = w64} (sfits_of c.delta_at-delta.type_inv) ∙ c.delta_at-delta.ensures

pub mask_bits-bits-requires : goal.mask_bits-bits-requires
mask_bits-bits-requires c = c.requires.shaped.some

pub loop-r-init : goal.loop-r-init
loop-r-init c = let a = c.args in start-rows a.rows a.cols (hash_of c.args.high c.args.low) a.weight a.counters.now a.norms.now c.requires

pub place-at-requires : goal.place-at-requires
place-at-requires c =
    let t = place_asks c.args.rows c.args.cols c.loop-r.r _ c.requires.shaped c.loop-r-test.true c.mask_bits-bits.ensures in
    record {
      le_cols = t.0;
      r_lt_max_rows = t.1;
    }

pub delta_at-delta-requires : goal.delta_at-delta-requires
delta_at-delta-requires c = (omega (arith, c.requires.shaped.few), c.requires.light)

pub add_cell-requires : goal.add_cell-requires
add_cell-requires c =
    let a = c.args in
    rw (c.place-at.ensures, delta_is (goal.at.add_cell-requires c).After-delta_at-delta)
    (ready-row a.rows a.cols (hash_of c.args.high c.args.low) a.weight a.counters.now a.norms.now c.loop-r.counters c.loop-r.norms c.loop-r.r c.requires c.loop-r.invariant c.loop-r-test.true)

pub loop-r-preserved : goal.loop-r-preserved
loop-r-preserved c =
    let a = c.args in
    row_step a.rows a.cols (hash_of c.args.high c.args.low) a.weight a.counters.now a.norms.now c.loop-r.counters c.loop-r.norms c.loop-r.r _ _ c.requires c.loop-r.invariant c.loop-r-test.true
    (rw (c.place-at.ensures, delta_is (goal.at.loop-r-preserved c).After-delta_at-delta) at c.add_cell.ensures.counters_after) (rw (c.place-at.ensures, delta_is (goal.at.loop-r-preserved c).After-delta_at-delta) at c.add_cell.ensures.norms_after)

pub shape_of-counters : goal.shape_of-counters
shape_of-counters c = c.loop-r.invariant.same_cells

pub shape_of-norms : goal.shape_of-norms
shape_of-norms c = c.loop-r.invariant.same_words

pub returns : goal.returns
returns c =
    let a = c.args in
    end_rows a.rows a.cols (hash_of c.args.high c.args.low) a.weight a.counters.now a.norms.now c.loop-r.counters c.loop-r.norms c.loop-r.r c.loop-r.invariant c.loop-r-test.false
