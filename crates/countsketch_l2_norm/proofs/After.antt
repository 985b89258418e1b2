-- When an estimate or the next test may be made: the counters that a hash names are in range where what an update reads is, after an update that fits, and where
-- all counters are. Lengths stay. Assumes nothing.
use mathlib.Core.Path.{◌≡◌, refl, ap, ◌∙◌}
use mathlib.Core.Bool.{true, ◌&&◌}
use Prim.Native.Nat.{ℕ, zero, suc, ◌+◌, ◌*◌, ◌≤◌, ◌<◌}
use native.Mathlib.Omega.{arith}
use mathlib.Core.List.{List}
use lib.ListN.{length, get_or, length-set}
use lib.Seq.{get_or-set_same, get_or-set_other}
use lib.IntN.{ℤ, pos, nat_abs, ◌+ℤ◌}
use Rattle.words.specs.Num.{top, in_range, all_in}
use Rattle.words.proofs.Bools.{and_left, and_right, both}
use Rattle.words.proofs.Squares.{all-at, range_bound, range_of}
use Rattle.matrix_storage.specs.Bits.{signed}
use Rattle.countsketch_l2_norm.specs.Sketch.{Sketch, cell_of, cell_at, add_cell, add_row, add_rows, cell_read, rows_read, rows_fit}
use Rattle.countsketch_l2_norm.specs.Estimate.{cells_in_range}
use Rattle.countsketch_l2_norm.proofs.Places.{cell-lt, cell-before}
use Rattle.countsketch_l2_norm.proofs.Rows.{read_as, fit_later}

-- ---- counters in range

pub cells-step : (cols h : ℕ) (xs : List ℤ) (k r : ℕ) → cells_in_range cols h xs (suc k) r ≡ in_range (cell_at xs (cell_of cols h r)) && cells_in_range cols h xs k (suc r)
unfolding cells_in_range
cells-step cols h xs k r = refl

pub cells-none : (cols h : ℕ) (xs : List ℤ) (r : ℕ) → cells_in_range cols h xs 0 r ≡ true
unfolding cells_in_range
cells-none cols h xs r = refl

cells_at_lem : (cols h : ℕ) (xs : List ℤ) (k q j : ℕ) → j < k → cells_in_range cols h xs k q ≡ true → in_range (cell_at xs (cell_of cols h (q + j))) ≡ true
unfolding cells_in_range
cells_at_lem cols h xs zero q j l e = absurd (omega arith)
cells_at_lem cols h xs (suc k) q zero l e =
    let z : q + 0 ≡ q = omega arith in
    rw z (and_left (in_range (cell_at xs (cell_of cols h q))) (cells_in_range cols h xs k (suc q)) e)
cells_at_lem cols h xs (suc k) q (suc j) l e =
    let z : q + suc j ≡ suc q + j = omega arith in
    rw z (cells_at_lem cols h xs k (suc q) j (omega arith) (and_right (in_range (cell_at xs (cell_of cols h q))) (cells_in_range cols h xs k (suc q)) e))

-- one of them
pub cell_in_lem : (cols h : ℕ) (xs : List ℤ) (rows r : ℕ) → r < rows → cells_in_range cols h xs rows 0 ≡ true → nat_abs (cell_at xs (cell_of cols h r)) ≤ top
cell_in_lem cols h xs rows r l e =
    let z : 0 + r ≡ r = omega arith in
    range_bound (cell_at xs (cell_of cols h r)) (rw z at (cells_at_lem cols h xs rows 0 r l e))

-- ---- what may follow what

-- a delta that reads in range: whether it fits may be asked
pub read_cell : (cols at r : ℕ) (s : Sketch) → cell_read cols at r s ≡ true → in_range (cell_at s.cells at) ≡ true
read_cell cols at r s e = range_of (cell_at s.cells at) (read_as (cell_at s.cells at) (get_or s.norms r 0) cols e).cell_in

-- an update that reads in range: whether it fits may be asked
pub read-cells : (cols h : ℕ) (s : Sketch) (k r : ℕ) → rows_read cols h s k r ≡ true → cells_in_range cols h s.cells k r ≡ true
unfolding rows_read cells_in_range
read-cells cols h s zero r e = refl
read-cells cols h s (suc k) r e =
    both (read_cell cols (cell_of cols h r) r s (and_left (cell_read cols (cell_of cols h r) r s) (rows_read cols h s k (suc r)) e))
    (read-cells cols h s k (suc r) (and_right (cell_read cols (cell_of cols h r) r s) (rows_read cols h s k (suc r)) e))

-- rows before q are left alone by the rows from q on
same-before : (cols h w : ℕ) (k q r : ℕ) (s : Sketch) → 1 ≤ cols → r < q → cell_at (add_rows cols h w k q s).cells (cell_of cols h r) ≡ cell_at s.cells (cell_of cols h r)
unfolding add_rows add_cell
same-before cols h w zero q r s p l = refl
same-before cols h w (suc k) q r s p l =
    same-before cols h w k (suc q) r (add_row cols h w q s) p (omega arith)
    ∙ get_or-set_other s.cells (cell_of cols h q) (cell_of cols h r) (cell_at s.cells (cell_of cols h q) +ℤ signed h q (pos w)) (pos 0) (λ e. omega (arith, e, cell-before cols h r q p l))

-- an update that fits: an estimate may follow
pub fit-after : (cols h w : ℕ) (k r : ℕ) (s : Sketch) → 1 ≤ cols → (r + k) * cols ≤ length s.cells → rows_fit cols h w s.cells k r ≡ true → cells_in_range cols h (add_rows cols h w k r s).cells k r ≡ true
unfolding add_rows add_cell rows_fit cells_in_range
fit-after cols h w zero r s p l e = refl
fit-after cols h w (suc k) r s p l e =
    let x = cell_at s.cells (cell_of cols h r) +ℤ signed h r (pos w) in
    let t = add_row cols h w r s in
    let n : cell_of cols h r < length s.cells = cell-lt (r + suc k) cols h r (length s.cells) p (omega arith) l in
    let z : suc r + k ≡ r + suc k = omega arith in
    let here : cell_at (add_rows cols h w k (suc r) t).cells (cell_of cols h r) ≡ x = same-before cols h w k (suc r) r t p (omega arith) ∙ get_or-set_same s.cells (cell_of cols h r) x (pos 0) n in
    both (ap in_range here ∙ and_left (in_range x) (rows_fit cols h w s.cells k (suc r)) e)
    (fit-after cols h w k (suc r) t p (rw (z, length-set s.cells (cell_of cols h r) x) l) (fit_later cols h w (cell_of cols h r) s.cells x k (suc r) (cell-before cols h r (suc r) p (omega arith)) ∙ and_right (in_range x) (rows_fit cols h w s.cells k (suc r)) e))

-- where every counter is in range: an estimate may follow a merge
pub all-cells : (cols h : ℕ) (xs : List ℤ) (k r : ℕ) → all_in xs ≡ true → cells_in_range cols h xs k r ≡ true
unfolding cells_in_range
all-cells cols h xs zero r e = refl
all-cells cols h xs (suc k) r e = both (all-at xs e (cell_of cols h r)) (all-cells cols h xs k (suc r) e)

-- ---- lengths

pub length-cell : (at r : ℕ) (d : ℤ) (s : Sketch) → length (add_cell at r d s).cells ≡ length s.cells
unfolding add_cell
length-cell at r d s = length-set s.cells at (cell_at s.cells at +ℤ d)

pub length-cell-norms : (at r : ℕ) (d : ℤ) (s : Sketch) → length (add_cell at r d s).norms ≡ length s.norms
unfolding add_cell
length-cell-norms at r d s = simp length-set

pub length-rows : (cols h w : ℕ) (k r : ℕ) (s : Sketch) → length (add_rows cols h w k r s).cells ≡ length s.cells
unfolding add_rows
length-rows cols h w zero r s = refl
length-rows cols h w (suc k) r s = length-rows cols h w k (suc r) (add_row cols h w r s) ∙ length-cell (cell_of cols h r) r (signed h r (pos w)) s

pub length-rows-norms : (cols h w : ℕ) (k r : ℕ) (s : Sketch) → length (add_rows cols h w k r s).norms ≡ length s.norms
unfolding add_rows
length-rows-norms cols h w zero r s = refl
length-rows-norms cols h w (suc k) r s = length-rows-norms cols h w k (suc r) (add_row cols h w r s) ∙ length-cell-norms (cell_of cols h r) r (signed h r (pos w)) s
