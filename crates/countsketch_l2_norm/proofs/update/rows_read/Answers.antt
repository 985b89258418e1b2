-- `countsketch_l2_norm::update::rows_read` meets its contract.
use mir.Syntax.{w64}
use Prim.Native.Nat.{ℕ, suc, ◌<◌}
use mathlib.Core.Path.{◌≡◌, sym, ◌∙◌}
use mathlib.Core.Bool.{Bool, ◌&&◌}
use lib.ListN.{length}
use native.Mathlib.Omega.{arith}
use borrow.Author.Rules.{rules, sfits_of}
use mir.Facts.{to_z-of_z}
use Rattle.countsketch_l2_norm.proofs.Places.{cell-lt, place_asks}
use Rattle.countsketch_l2_norm.proofs.Scans.{scan_start, scan_on, scan_stop, scan_end}
use Rattle.countsketch_l2_norm.proofs.Rows.{read_step, read_none}
use Rattle.countsketch_l2_norm.specs.Norms.{norm_at}
use Rattle.countsketch_l2_norm.specs.inner.Needs.{sketch_of}
use Rattle.countsketch_l2_norm.specs.Sketch.{cell_of, cell_at, row_read, rows_read}
use Rattle.matrix_storage.specs.Bits.{hash_of}
use Rattle.countsketch_l2_norm.proofs.update.rows_read.Goals as goal
use Rattle.countsketch_l2_norm.proofs.update.rows_read.Goals.{After-place-at, After-row_read, In-loop-r, Start}

abbrev scanned : Start → ℕ → ℕ → Bool
scanned c = let a = c.args in rows_read a.cols (hash_of c.args.high c.args.low) (sketch_of a.counters.now a.norms.now a.rows)

inside : (c : After-place-at) → c.place-at.result < length c.args.counters.now
inside c =
    let a = c.args in
    rw c.place-at.ensures (cell-lt a.rows a.cols (hash_of c.args.high c.args.low) c.loop-r.r (length a.counters.now) c.requires.shaped.some c.loop-r-test.true c.requires.cols_in_bounds.0)

row_is : (c : After-row_read) → row_read (cell_at c.args.counters.now (cell_of c.args.cols (hash_of c.args.high c.args.low) c.loop-r.r)) (norm_at c.args.norms.now c.loop-r.r) c.args.cols ≡ c.row_read.result
row_is c = sym (rw (to_z-of_z {w = w64} (sfits_of c.row_read-arg-1.given), c.place-at.ensures, c.norm_of.ensures) at c.row_read.ensures)

step : (c : In-loop-r) → (k : ℕ) → rows_read c.args.cols (hash_of c.args.high c.args.low) (sketch_of c.args.counters.now c.args.norms.now c.args.rows) (suc k) c.loop-r.r ≡ row_read (cell_at c.args.counters.now (cell_of c.args.cols (hash_of c.args.high c.args.low) c.loop-r.r)) (norm_at c.args.norms.now c.loop-r.r) c.args.cols && rows_read c.args.cols (hash_of c.args.high c.args.low) (sketch_of c.args.counters.now c.args.norms.now c.args.rows) k (suc c.loop-r.r)
step c k = let a = c.args in read_step a.cols (hash_of c.args.high c.args.low) a.counters.now a.norms.now a.rows k c.loop-r.r c.loop-r-test.true

pub mask_bits-bits-requires : goal.mask_bits-bits-requires
mask_bits-bits-requires c = c.requires.shaped.some

pub loop-r-init : goal.loop-r-init
loop-r-init c = scan_start (scanned (goal.at.loop-r-init c).Start) c.args.rows

pub place-at-requires : goal.place-at-requires
place-at-requires c =
    let t = place_asks c.args.rows c.args.cols c.loop-r.r _ c.requires.shaped c.loop-r-test.true c.mask_bits-bits.ensures in
    record {
      le_cols = t.0;
      r_lt_max_rows = t.1;
    }

pub offset_bounds-counters-at : goal.offset_bounds-counters-at
offset_bounds-counters-at c = let h = inside (goal.at.offset_bounds-counters-at c).After-place-at in search rules

pub bounds-counters-at : goal.bounds-counters-at
bounds-counters-at c = let h = inside (goal.at.bounds-counters-at c).After-place-at in search rules

pub norm_of-requires : goal.norm_of-requires
norm_of-requires c = (omega (arith, c.requires.shaped.few), omega (arith, c.requires.cols_in_bounds.1))

pub returns-then-not-row_read : goal.returns-then-not-row_read
returns-then-not-row_read c = scan_stop (scanned (goal.at.returns-then-not-row_read c).Start) c.args.rows c.loop-r.r _ c.loop-r.invariant c.loop-r-test.true (step (goal.at.returns-then-not-row_read c).In-loop-r) (row_is (goal.at.returns-then-not-row_read c).After-row_read ∙ c.if-not-row_read.true)

pub loop-r-preserved : goal.loop-r-preserved
loop-r-preserved c = scan_on (scanned (goal.at.loop-r-preserved c).Start) c.args.rows c.loop-r.r _ c.loop-r.invariant c.loop-r-test.true (step (goal.at.loop-r-preserved c).In-loop-r) (row_is (goal.at.loop-r-preserved c).After-row_read ∙ c.if-not-row_read.false)

pub returns : goal.returns
returns c = let a = c.args in scan_end (scanned (goal.at.returns c).Start) a.rows c.loop-r.r c.loop-r.invariant c.loop-r-test.false (read_none a.cols (hash_of c.args.high c.args.low) (sketch_of a.counters.now a.norms.now a.rows) c.loop-r.r)
