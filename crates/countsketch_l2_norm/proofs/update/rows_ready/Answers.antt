-- `countsketch_l2_norm::update::rows_ready` meets its contract.
use Prim.Native.Nat.{◌+◌, ◌*◌, ◌≤◌, ◌<◌}
use mathlib.Core.Path.{◌≡◌}
use lib.ListN.{length}
use borrow.Author.Rules.{rules, sfits_of}
use mir.Syntax.{w64}
use mir.Val.{to_z, of_z}
use mir.Facts.{to_z-of_z}
use Rattle.countsketch_l2_norm.proofs.Places.{place_asks}
use Rattle.countsketch_l2_norm.proofs.Tried.{judge-start, judge_asks, row_may, judge_on, judge_stop, judge_end}
use Rattle.countsketch_l2_norm.specs.Sketch.{cell_at}
use Rattle.words.specs.Num.{top}
use Rattle.matrix_storage.specs.Bits.{max_rows, hash_of}
use Rattle.countsketch_l2_norm.proofs.update.rows_ready.Goals as goal
use Rattle.countsketch_l2_norm.proofs.update.rows_ready.Goals.{After-place-at, After-row_ready}

-- what a row is asked for
asked : (c : After-place-at) → ((c.loop-r.r < max_rows) × (c.args.weight ≤ top)) × ((c.place-at.result < length c.args.counters.now) × (2 * c.loop-r.r + 1 < length c.args.norms.now))
asked c = judge_asks c.loop-r.invariant c.place-at.ensures c.loop-r-test.true

row_is : (c : After-row_ready) → let a = c.args in c.row_ready.result ≡ row_may c.place-at.result a.cols (hash_of a.high a.low) a.weight c.loop-r.r a.counters.now a.norms.now
row_is c =
    let x = cell_at c.args.counters.now c.place-at.result in
    let e : to_z w64 (of_z w64 x) ≡ x = to_z-of_z {w = w64} (sfits_of c.row_ready-arg-1.given) in
    rw (e, c.norm_of.ensures) at c.row_ready.ensures

pub mask_bits-bits-requires : goal.mask_bits-bits-requires
mask_bits-bits-requires c = c.requires.shaped.some

pub loop-r-init : goal.loop-r-init
loop-r-init c = judge-start (c.requires.shaped, c.requires.cols_in_bounds)

pub place-at-requires : goal.place-at-requires
place-at-requires c =
    let t = place_asks c.args.rows c.args.cols c.loop-r.r _ c.requires.shaped c.loop-r-test.true c.mask_bits-bits.ensures in
    record {
      le_cols = t.0;
      r_lt_max_rows = t.1;
    }

pub offset_bounds-counters-at : goal.offset_bounds-counters-at
offset_bounds-counters-at c = let h = (asked (goal.at.offset_bounds-counters-at c).After-place-at).1.0 in search rules

pub bounds-counters-at : goal.bounds-counters-at
bounds-counters-at c = let h = (asked (goal.at.bounds-counters-at c).After-place-at).1.0 in search rules

pub norm_of-requires : goal.norm_of-requires
norm_of-requires c = ((asked (goal.at.norm_of-requires c).After-place-at).0.0, (asked (goal.at.norm_of-requires c).After-place-at).1.1)

pub row_ready-requires : goal.row_ready-requires
row_ready-requires c = (asked (goal.at.row_ready-requires c).After-place-at).0

pub returns-then-not-row_ready : goal.returns-then-not-row_ready
returns-then-not-row_ready c = judge_stop c.loop-r.invariant c.place-at.ensures c.loop-r-test.true (row_is (goal.at.returns-then-not-row_ready c).After-row_ready) c.if-not-row_ready.true

pub loop-r-preserved : goal.loop-r-preserved
loop-r-preserved c = judge_on c.loop-r.invariant c.place-at.ensures c.loop-r-test.true (row_is (goal.at.loop-r-preserved c).After-row_ready) c.if-not-row_ready.false

pub returns : goal.returns
returns c = judge_end c.loop-r.invariant c.loop-r-test.false
