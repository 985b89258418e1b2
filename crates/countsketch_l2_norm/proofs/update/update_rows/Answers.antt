-- `countsketch_l2_norm::update::update_rows` meets its contract.
use mir.Syntax.{w64}
use Prim.Native.Nat.{◌<◌}
use native.Mathlib.Omega.{arith}
use borrow.Author.Rules.{rules, sfits_of}
use mir.Facts.{to_z-of_z}
use Rattle.countsketch_l2_norm.proofs.Places.{place_asks}
use Rattle.countsketch_l2_norm.proofs.Rows.{end_rows}
use Rattle.countsketch_l2_norm.proofs.Filled.{row_asks, added_bits, fill_start, fill_on, fill_end}
use Rattle.matrix_storage.specs.Bits.{max_rows, hash_of}
use Rattle.countsketch_l2_norm.proofs.update.update_rows.Goals as goal
use Rattle.countsketch_l2_norm.proofs.update.update_rows.Goals.{Start}

pub mask_bits-bits-requires : goal.mask_bits-bits-requires
mask_bits-bits-requires c = c.requires.ready.shaped.some

pub loop-r-init : goal.loop-r-init
loop-r-init c = let a = c.args in fill_start a.rows a.cols (hash_of c.args.high c.args.low) a.weight a.buf.now a.counters.now a.norms.now c.requires.ready c.requires.buf_len

pub place-at-requires : goal.place-at-requires
place-at-requires c =
    let t = place_asks c.args.rows c.args.cols c.loop-r.r _ c.requires.ready.shaped c.loop-r-test.true c.mask_bits-bits.ensures in
    record {
      le_cols = t.0;
      r_lt_max_rows = t.1;
    }

pub update_row-requires : goal.update_row-requires
update_row-requires c =
    let t = row_asks c.requires.ready c.place-at.ensures c.loop-r.invariant.counted.going c.loop-r-test.true in
    record {
      r_lt_max_rows = t.0;
      cell_ready = t.1;
    }

pub offset_bounds-buf-r : goal.offset_bounds-buf-r
offset_bounds-buf-r c = let h : c.loop-r.r < max_rows = omega (arith, c.requires.ready.shaped.few, c.loop-r-test.true) in let k = c.loop-r.invariant.len in search rules

pub bounds-buf-r : goal.bounds-buf-r
bounds-buf-r c = let h : c.loop-r.r < max_rows = omega (arith, c.requires.ready.shaped.few, c.loop-r-test.true) in let k = c.loop-r.invariant.len in search rules

pub loop-r-preserved : goal.loop-r-preserved
loop-r-preserved c =
    let a = c.args in
    let lp = c.loop-r in
    fill_on a.rows a.cols (hash_of c.args.high c.args.low) a.weight a.counters.now a.norms.now lp.buf lp.counters lp.norms lp.r _ _ _ c.requires.ready lp.invariant c.loop-r-test.true
    (added_bits a.cols c.place-at.ensures (to_z-of_z {w = w64} (sfits_of c.update_row.type_inv)) c.update_row.ensures)

pub shape_of-counters : goal.shape_of-counters
shape_of-counters c = c.loop-r.invariant.counted.going.same_cells

pub shape_of-norms : goal.shape_of-norms
shape_of-norms c = c.loop-r.invariant.counted.going.same_words

pub returns : goal.returns
returns c =
    let a = c.args in
    let lp = c.loop-r in record {
      buf_len_2 = lp.invariant.len;
      rows_after = end_rows a.rows a.cols (hash_of c.args.high c.args.low) a.weight a.counters.now a.norms.now lp.counters lp.norms lp.r lp.invariant.counted.going c.loop-r-test.false;
      buf_after = fill_end a.rows a.cols (hash_of c.args.high c.args.low) a.weight a.counters.now a.norms.now lp.buf lp.counters lp.norms lp.r lp.invariant c.loop-r-test.false;
    }
