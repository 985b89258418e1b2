-- `countsketch_l2_norm::update::rows_fit` meets its contract.
use Prim.Native.Nat.{ℕ, suc, ◌≤◌, ◌<◌}
use mathlib.Core.Path.{◌≡◌, sym, ◌∙◌}
use mathlib.Core.Bool.{Bool, ◌&&◌}
use lib.ListN.{length, get_or}
use lib.IntN.{ℤ, pos, nat_abs, ◌+ℤ◌}
use native.Mathlib.Omega.{arith}
use borrow.Author.Rules.{rules, sfits_of}
use mir.Syntax.{w64}
use mir.Val.{to_z, of_z}
use mir.Facts.{to_z-of_z}
use Rattle.countsketch_l2_norm.proofs.Places.{cell-lt, place_asks}
use Rattle.countsketch_l2_norm.proofs.Scans.{scan_start, scan_on, scan_stop, scan_end}
use Rattle.countsketch_l2_norm.proofs.Rows.{fit-step, fit_none}
use Rattle.countsketch_l2_norm.proofs.After.{cell_in_lem}
use Rattle.countsketch_l2_norm.specs.Sketch.{cell_of, cell_at, cell_fits, rows_fit}
use Rattle.words.proofs.Signed.{fits, abs-add, sum_is}
use Rattle.words.specs.Num.{top, in_range}
use Rattle.matrix_storage.specs.Bits.{signed, hash_of}
use Rattle.matrix_storage.proofs.Cells.{abs-signed}
use Rattle.countsketch_l2_norm.proofs.update.rows_fit.Goals as goal
use Rattle.countsketch_l2_norm.proofs.update.rows_fit.Goals.{After-delta_at-delta, After-in_range, After-place-at, After-sum-1, In-loop-r, Start}

abbrev scanned : Start → ℕ → ℕ → Bool
scanned c = let a = c.args in rows_fit a.cols (hash_of c.args.high c.args.low) a.weight a.counters.now

inside : (c : After-place-at) → c.place-at.result < length c.args.counters.now
inside c =
    let a = c.args in
    rw c.place-at.ensures (cell-lt a.rows a.cols (hash_of c.args.high c.args.low) c.loop-r.r (length a.counters.now) c.requires.shaped.some c.loop-r-test.true c.requires.cols_in_bounds.0)

delta_is : (c : After-delta_at-delta) → to_z w64 (of_z w64 c.delta_at-delta.result) ≡ signed (hash_of c.args.high c.args.low) c.loop-r.r (pos c.args.weight)
delta_is c = to_z-of_z {w = w64} (sfits_of c.delta_at-delta.type_inv) ∙ c.delta_at-delta.ensures

abbrev cell-of : (c : After-sum-1) → ℤ
cell-of c = let a = c.args in cell_at a.counters.now (cell_of a.cols (hash_of c.args.high c.args.low) c.loop-r.r)

abbrev delta-of : (c : After-sum-1) → ℤ
delta-of c = signed (hash_of c.args.high c.args.low) c.loop-r.r (pos c.args.weight)

bounds : (c : After-sum-1) → (nat_abs (cell-of c) ≤ top) × (nat_abs (delta-of c) ≤ top)
bounds c =
    let a = c.args in
    (cell_in_lem a.cols (hash_of c.args.high c.args.low) a.counters.now a.rows c.loop-r.r c.loop-r-test.true c.requires.rows_value, omega (arith, abs-signed (hash_of c.args.high c.args.low) c.loop-r.r (pos a.weight), c.requires.cols_in_bounds.1))

row_is : (c : After-in_range) → in_range (cell-of c.before +ℤ delta-of c.before) ≡ c.in_range.result
row_is c =
    let b = bounds c.before in
    let a = c.args in
    let x = get_or a.counters.now c.place-at.result (pos 0) in
    let d = c.delta_at-delta.result in
    let bx : nat_abs x ≤ top = rw c.place-at.ensures b.0 in
    let bd : nat_abs d ≤ top = rw c.delta_at-delta.ensures b.1 in
    sym (rw (sum_is x d bx bd, c.place-at.ensures, c.delta_at-delta.ensures) at c.in_range.ensures)

step : (c : In-loop-r) → (k : ℕ) → scanned c.before.before.before (suc k) c.loop-r.r ≡ cell_fits (cell_of c.args.cols (hash_of c.args.high c.args.low) c.loop-r.r) (signed (hash_of c.args.high c.args.low) c.loop-r.r (pos c.args.weight)) c.args.counters.now && scanned c.before.before.before k (suc c.loop-r.r)
step c k = let a = c.args in fit-step a.cols (hash_of c.args.high c.args.low) a.weight a.counters.now k c.loop-r.r

pub mask_bits-bits-requires : goal.mask_bits-bits-requires
mask_bits-bits-requires c = c.requires.shaped.some

pub loop-r-init : goal.loop-r-init
loop-r-init c = scan_start (scanned (goal.at.loop-r-init c).Start) c.args.rows

pub place-at-requires : goal.place-at-requires
place-at-requires c =
    let t = place_asks c.args.rows c.args.cols c.loop-r.r _ c.requires.shaped c.loop-r-test.true c.mask_bits-bits.ensures in
    record {
      le_cols = t.0;
      r_lt_max_rows = t.1;
    }

pub delta_at-delta-requires : goal.delta_at-delta-requires
delta_at-delta-requires c = (omega (arith, c.requires.shaped.few), c.requires.cols_in_bounds.1)

pub offset_bounds-counters-at : goal.offset_bounds-counters-at
offset_bounds-counters-at c = let h = inside (goal.at.offset_bounds-counters-at c).After-place-at in search rules

pub bounds-counters-at : goal.bounds-counters-at
bounds-counters-at c = let h = inside (goal.at.bounds-counters-at c).After-place-at in search rules

pub overflow_add-sum : goal.overflow_add-sum
overflow_add-sum c = let b = bounds (goal.at.overflow_add-sum c).After-sum-1 in rw (to_z-of_z {w = w64} (sfits_of c.sum-1.given), c.place-at.ensures, delta_is (goal.at.overflow_add-sum c).After-delta_at-delta) (fits (cell-of (goal.at.overflow_add-sum c).After-sum-1 +ℤ delta-of (goal.at.overflow_add-sum c).After-sum-1) (omega (arith, b, abs-add (cell-of (goal.at.overflow_add-sum c).After-sum-1) (delta-of (goal.at.overflow_add-sum c).After-sum-1))))

pub returns-then-not-in_range : goal.returns-then-not-in_range
returns-then-not-in_range c = scan_stop (scanned (goal.at.returns-then-not-in_range c).Start) c.args.rows c.loop-r.r _ c.loop-r.invariant c.loop-r-test.true (step (goal.at.returns-then-not-in_range c).In-loop-r) (row_is (goal.at.returns-then-not-in_range c).After-in_range ∙ c.if-not-in_range.true)

pub loop-r-preserved : goal.loop-r-preserved
loop-r-preserved c = scan_on (scanned (goal.at.loop-r-preserved c).Start) c.args.rows c.loop-r.r _ c.loop-r.invariant c.loop-r-test.true (step (goal.at.loop-r-preserved c).In-loop-r) (row_is (goal.at.loop-r-preserved c).After-in_range ∙ c.if-not-in_range.false)

pub returns : goal.returns
returns c = let a = c.args in scan_end (scanned (goal.at.returns c).Start) a.rows c.loop-r.r c.loop-r.invariant c.loop-r-test.false (fit_none a.cols (hash_of c.args.high c.args.low) a.weight a.counters.now c.loop-r.r)
