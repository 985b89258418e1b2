-- `countsketch_l2_norm::update::row_ready` meets its contract.
use Prim.Native.Nat.{ℕ, ◌*◌, ◌≤◌}
use mathlib.Core.Path.{◌≡◌, sym, ap, ◌∙◌}
use mathlib.Core.Bool.{◌&&◌}
use lib.IntN.{ℤ, pos, nat_abs, ◌+ℤ◌}
use lib.Dec.{leb}
use native.Mathlib.Omega.{arith}
use mir.Facts.{to_z-of_z}
use Rattle.countsketch_l2_norm.proofs.Rows.{read_as, small-ready}
use Rattle.countsketch_l2_norm.specs.Sketch.{row_read}
use Rattle.words.proofs.Signed.{back, fits, abs-add, sum_is}
use Rattle.words.specs.Num.{top, short_top, square_cap}
use Rattle.words.specs.Wide.{value_of}
use Rattle.matrix_storage.specs.Bits.{signed, hash_of}
use Rattle.matrix_storage.proofs.Cells.{abs-signed}
use Rattle.countsketch_l2_norm.proofs.update.row_ready.Goals as goal
use Rattle.countsketch_l2_norm.proofs.update.row_ready.Goals.{After-delta_at, After-row_read, Then-row_read, Start, Then-is_short}

abbrev delta : Start → ℤ
delta c = signed (hash_of c.args.high c.args.low) c.args.r (pos c.args.weight)

short : (c : Then-is_short) → nat_abs c.args.x ≤ short_top
short c = rw (to_z-of_z c.ranges.x) at c.is_short.ensures c.if-is_short.true

read_of : (c : After-row_read) → row_read c.args.x (value_of c.args.w) c.args.cols ≡ c.row_read.result
read_of c = sym (rw (to_z-of_z c.ranges.x) at c.row_read.ensures)

cell-small : (c : Then-row_read) → nat_abs c.args.x ≤ top
cell-small c = (read_as c.args.x (value_of c.args.w) c.args.cols (read_of c.before ∙ c.if-row_read.true)).cell_in

delta-small : (c : After-delta_at) → nat_abs c.delta_at.result ≤ top
delta-small c =
    let a = c.args in
    rw c.delta_at.ensures (omega (arith, abs-signed (hash_of a.high a.low) a.r (pos a.weight), c.requires.1))

pub short_square-requires : goal.short_square-requires
short_square-requires c = rw (to_z-of_z c.ranges.x) (short (goal.at.short_square-requires c).Then-is_short)

pub returns-then-weight-le-LIGHT_TOP : goal.returns-then-weight-le-LIGHT_TOP
returns-then-weight-le-LIGHT_TOP c =
    let a = c.args in
    c.norm_ready.ensures
    ∙ ap (λ (n : ℕ). leb (value_of a.w) (a.cols * square_cap) && leb n (value_of a.w)) (rw (to_z-of_z c.ranges.x) at c.short_square.ensures)
    ∙ small-ready a.x (delta (goal.at.returns-then-weight-le-LIGHT_TOP c).Start) (value_of a.w) a.cols (short (goal.at.returns-then-weight-le-LIGHT_TOP c).Then-is_short) (omega (arith, abs-signed (hash_of a.high a.low) a.r (pos a.weight), c.if-weight-le-LIGHT_TOP.true))

pub delta_at-requires : goal.delta_at-requires
delta_at-requires c = c.requires

pub overflow_add-x : goal.overflow_add-x
overflow_add-x c =
    let x = c.args.x in
    let d = c.delta_at.result in
    let b = cell-small (goal.at.overflow_add-x c).Then-row_read in
    let k = delta-small (goal.at.overflow_add-x c).After-delta_at in
    rw (back x (omega arith), back d (omega arith)) (fits (x +ℤ d) (omega (arith, b, k, abs-add x d)))

pub returns-then-row_read : goal.returns-then-row_read
returns-then-row_read c =
    rw (read_of (goal.at.returns-then-row_read c).After-row_read ∙ c.if-row_read.true)
    (rw (sum_is c.args.x c.delta_at.result (cell-small (goal.at.returns-then-row_read c).Then-row_read) (delta-small (goal.at.returns-then-row_read c).After-delta_at), c.delta_at.ensures) at c.in_range.ensures)
