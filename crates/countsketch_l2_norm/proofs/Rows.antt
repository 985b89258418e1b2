-- One counter, and a hash's counters row by row: the stores and the questions of an update. Assumes nothing.
use mathlib.Core.Path.{◌≡◌, refl, sym, ap, ap₂, ◌∙◌}
use mathlib.Core.Bool.{Bool, true, false, ◌&&◌}
use Prim.Native.Nat.{ℕ, zero, suc, ◌+◌, ◌-◌, ◌*◌, ◌≤◌, ◌<◌}
use native.Mathlib.Omega.{arith}
use native.Mathlib.Numerals.{add-one}
use native.Mathlib.Nat.{suc-mul}
use mathlib.Core.List.{List}
use lib.ListN.{length, get_or, set, length-set}
use lib.Seq.{get_or-set_other}
use lib.IntN.{ℤ, pos, nat_abs, ◌+ℤ◌}
use lib.Dec.{leb}
use borrow.Author.Tests.{leb-true}
use Rattle.words.specs.Num.{top, short_top, square_cap, in_range, capped}
use Rattle.words.proofs.Bools.{and_left, and_right, both, and_cross}
use Rattle.words.proofs.Signed.{abs-add}
use Rattle.words.proofs.Squares.{range_bound, range_of, capped_small}
use Rattle.matrix_storage.specs.Bits.{max_rows, max_cols, signed}
use Rattle.countsketch_l2_norm.specs.Norms.{norms_of, norm_at}
use Rattle.countsketch_l2_norm.specs.inner.Needs.{set_norm, sketch_of, rows_ready, Ready, CellReady}
use Rattle.countsketch_l2_norm.specs.Sketch.{Sketch, cell_of, cell_at, add_cell, add_row, add_rows, row_read, cell_read, cell_fits, rows_read, rows_fit}
use Rattle.countsketch_l2_norm.proofs.Norms.{norm-at, norm-set, length-set_norm}
use Rattle.countsketch_l2_norm.proofs.Places.{cell-lt, cell-before}

-- ---- one counter

-- the three tests of what is read
pub record ReadAs (x : ℤ) (n cols : ℕ) : Type 0 where
  pub cell_in : nat_abs x ≤ top
  pub norm_in : n ≤ cols * square_cap
  pub holds : capped x ≤ n

pub read_as : (x : ℤ) (n cols : ℕ) → row_read x n cols ≡ true → ReadAs x n cols
read_as x n cols e =
    let two : in_range x && leb n (cols * square_cap) ≡ true = and_left (in_range x && leb n (cols * square_cap)) (leb (capped x) n) e in
    record {
      cell_in = range_bound x (and_left (in_range x) (leb n (cols * square_cap)) two);
      norm_in = leb-true n (cols * square_cap) (and_right (in_range x) (leb n (cols * square_cap)) two);
      holds = leb-true (capped x) n (and_right (in_range x && leb n (cols * square_cap)) (leb (capped x) n) e);
    }

and_end : (b : Bool) → b ≡ b && true
and_end true = refl
and_end false = refl

-- a short counter and a weight that is not near the end of the range: only the norm is asked for
pub small-ready : (x d : ℤ) (n cols : ℕ) → nat_abs x ≤ short_top → nat_abs d ≤ top - short_top → leb n (cols * square_cap) && leb (nat_abs x * nat_abs x) n ≡ row_read x n cols && in_range (x +ℤ d)
small-ready x d n cols h k =
    rw (capped_small x (omega arith), range_of x (omega arith), range_of (x +ℤ d) (omega (arith, abs-add x d))) (and_end (leb n (cols * square_cap) && leb (capped x) n))

-- what is read of a counter is in range, and it stays so: it may be stored
pub cell-ready : (rows cols at r : ℕ) (d : ℤ) (xs : List ℤ) (ws : List ℕ) → at < length xs → r < rows → rows ≤ max_rows → cols ≤ max_cols → 2 * rows ≤ length ws
    → row_read (cell_at xs at) (norm_at ws r) cols ≡ true → cell_fits at d xs ≡ true → CellReady at r d xs ws
cell-ready rows cols at r d xs ws i l few wide p e f =
    let q = read_as (cell_at xs at) (norm_at ws r) cols e in
    record {
      inside = i;
      few = omega arith;
      pair = omega arith;
      cell_in = q.cell_in;
      sum_in = range_bound (cell_at xs at +ℤ d) f;
      holds = q.holds;
      norm_in = omega (arith, q.norm_in);
    }

-- the sketch after a counter's stores
pub cell_stored : (rows at r : ℕ) (d : ℤ) (xs : List ℤ) (ws : List ℕ) → r < rows → 2 * rows ≤ length ws
    → sketch_of (set xs at (cell_at xs at +ℤ d)) (set_norm ws r (norm_at ws r - capped (cell_at xs at) + capped (cell_at xs at +ℤ d))) rows ≡ add_cell at r d (sketch_of xs ws rows)
unfolding add_cell
cell_stored rows at r d xs ws l k =
    let u = capped (cell_at xs at) in
    let v = capped (cell_at xs at +ℤ d) in
    let e : norms_of (set_norm ws r (norm_at ws r - u + v)) rows ≡ set (norms_of ws rows) r (get_or (norms_of ws rows) r 0 - u + v) =
    norm-set ws rows r (norm_at ws r - u + v) l k ∙ ap (λ (n : ℕ). set (norms_of ws rows) r (n - u + v)) (sym (norm-at ws rows r l)) in
    λ i. record { cells = set xs at (cell_at xs at +ℤ d); norms = e i }

-- ---- the questions, row by row

-- one row of what is read, with the norm in its two words
pub read_step : (cols h : ℕ) (xs : List ℤ) (ws : List ℕ) (rows k r : ℕ) → r < rows
    → rows_read cols h (sketch_of xs ws rows) (suc k) r ≡ row_read (cell_at xs (cell_of cols h r)) (norm_at ws r) cols && rows_read cols h (sketch_of xs ws rows) k (suc r)
unfolding rows_read
read_step cols h xs ws rows k r l = rw (norm-at ws rows r l)

pub read_none : (cols h : ℕ) (s : Sketch) (r : ℕ) → rows_read cols h s 0 r ≡ true
unfolding rows_read
read_none cols h s r = refl

pub fit-step : (cols h w : ℕ) (xs : List ℤ) (k r : ℕ) → rows_fit cols h w xs (suc k) r ≡ cell_fits (cell_of cols h r) (signed h r (pos w)) xs && rows_fit cols h w xs k (suc r)
unfolding rows_fit
fit-step cols h w xs k r = refl

pub fit_none : (cols h w : ℕ) (xs : List ℤ) (r : ℕ) → rows_fit cols h w xs 0 r ≡ true
unfolding rows_fit
fit_none cols h w xs r = refl

-- both at once
pub ready-step : (cols h w : ℕ) (xs : List ℤ) (ws : List ℕ) (rows k r : ℕ) → r < rows
    → rows_ready cols h w (sketch_of xs ws rows) (suc k) r ≡ row_read (cell_at xs (cell_of cols h r)) (norm_at ws r) cols && cell_fits (cell_of cols h r) (signed h r (pos w)) xs && rows_ready cols h w (sketch_of xs ws rows) k (suc r)
ready-step cols h w xs ws rows k r l =
    ap₂ (λ (a b : Bool). a && b) (read_step cols h xs ws rows k r l) (fit-step cols h w xs k r)
    ∙ and_cross (row_read (cell_at xs (cell_of cols h r)) (norm_at ws r) cols) (rows_read cols h (sketch_of xs ws rows) k (suc r)) (cell_fits (cell_of cols h r) (signed h r (pos w)) xs) (rows_fit cols h w xs k (suc r))

pub ready-none : (cols h w : ℕ) (s : Sketch) (r : ℕ) → rows_ready cols h w s 0 r ≡ true
ready-none cols h w s r = both (read_none cols h s r) (fit_none cols h w s.cells r)

-- ---- the stores, row by row

next_row : (at q cols : ℕ) → at < q * cols → at < suc q * cols
next_row at q cols h = omega (arith, suc-mul q cols)

-- a counter's stores leave later rows as they are
pub read_later : (cols h at r : ℕ) (d : ℤ) (s : Sketch) (k q : ℕ) → at < q * cols → r < q → rows_read cols h (add_cell at r d s) k q ≡ rows_read cols h s k q
unfolding rows_read add_cell
read_later cols h at r d s zero q p l = refl
read_later cols h at r d s (suc k) q p l =
    rw (
      get_or-set_other s.cells at (cell_of cols h q) (cell_at s.cells at +ℤ d) (pos 0) (λ e. omega (arith, e, p)),
      get_or-set_other s.norms r q (get_or s.norms r 0 - capped (cell_at s.cells at) + capped (cell_at s.cells at +ℤ d)) 0 (omega arith),
    )
    (ap (λ (b : Bool). cell_read cols (cell_of cols h q) q s && b) (read_later cols h at r d s k (suc q) (next_row at q cols p) (omega arith)))

pub fit_later : (cols h w at : ℕ) (xs : List ℤ) (v : ℤ) (k q : ℕ) → at < q * cols → rows_fit cols h w (set xs at v) k q ≡ rows_fit cols h w xs k q
unfolding rows_fit
fit_later cols h w at xs v zero q p = refl
fit_later cols h w at xs v (suc k) q p =
    rw (get_or-set_other xs at (cell_of cols h q) v (pos 0) (λ e. omega (arith, e, p)))
    (ap (λ (b : Bool). cell_fits (cell_of cols h q) (signed h q (pos w)) xs && b) (fit_later cols h w at xs v k (suc q) (next_row at q cols p)))

-- what is left to do gives the answer, and what is left to read is in range
pub record Going (rows cols h w : ℕ) (xs₀ : List ℤ) (ws₀ : List ℕ) (xs : List ℤ) (ws : List ℕ) (r : ℕ) : Type 0 where
  pub left : ℕ
  pub all : left + r ≡ rows
  pub same_cells : length xs ≡ length xs₀
  pub same_words : length ws ≡ length ws₀
  pub read : rows_read cols h (sketch_of xs ws rows) left r ≡ true
  pub fit : rows_fit cols h w xs left r ≡ true
  pub goes : add_rows cols h w left r (sketch_of xs ws rows) ≡ add_rows cols h w rows 0 (sketch_of xs₀ ws₀ rows)

pub start-rows : (rows cols h w : ℕ) (xs : List ℤ) (ws : List ℕ) → Ready rows cols h w xs ws → Going rows cols h w xs ws xs ws 0
start-rows rows cols h w xs ws d = record { left = rows; all = omega arith; same_cells = refl; same_words = refl; read = d.read; fit = d.fit; goes = refl }

pub ready-row : (rows cols h w : ℕ) (xs₀ : List ℤ) (ws₀ : List ℕ) (xs : List ℤ) (ws : List ℕ) (r : ℕ) → Ready rows cols h w xs₀ ws₀ → Going rows cols h w xs₀ ws₀ xs ws r → r < rows
    → CellReady (cell_of cols h r) r (signed h r (pos w)) xs ws
ready-row rows cols h w xs₀ ws₀ xs ws r d g l = go g.left g.all g.read g.fit
  where
    go : (k : ℕ) → k + r ≡ rows → rows_read cols h (sketch_of xs ws rows) k r ≡ true → rows_fit cols h w xs k r ≡ true → CellReady (cell_of cols h r) r (signed h r (pos w)) xs ws
    go zero e p q = absurd (omega arith)
    go (suc k) e p q =
        cell-ready rows cols (cell_of cols h r) r (signed h r (pos w)) xs ws (cell-lt rows cols h r (length xs) d.shaped.some l (omega (arith, d.room, g.same_cells))) l d.shaped.few d.shaped.wide (omega (arith, d.pairs, g.same_words))
        (and_left (row_read (cell_at xs (cell_of cols h r)) (norm_at ws r) cols) (rows_read cols h (sketch_of xs ws rows) k (suc r)) (sym (read_step cols h xs ws rows k r l) ∙ p))
        (and_left (cell_fits (cell_of cols h r) (signed h r (pos w)) xs) (rows_fit cols h w xs k (suc r)) (sym (fit-step cols h w xs k r) ∙ q))

add_step : (cols h w n r : ℕ) (s : Sketch) → add_rows cols h w n (suc r) (add_row cols h w r s) ≡ add_rows cols h w (suc n) r s
unfolding add_rows
add_step cols h w n r s = refl

pub row_step : (rows cols h w : ℕ) (xs₀ : List ℤ) (ws₀ : List ℕ) (xs : List ℤ) (ws : List ℕ) (r : ℕ) (ys : List ℤ) (vs : List ℕ)
    → Ready rows cols h w xs₀ ws₀ → Going rows cols h w xs₀ ws₀ xs ws r → r < rows
    → ys ≡ set xs (cell_of cols h r) (cell_at xs (cell_of cols h r) +ℤ signed h r (pos w))
    → vs ≡ set_norm ws r (norm_at ws r - capped (cell_at xs (cell_of cols h r)) + capped (cell_at xs (cell_of cols h r) +ℤ signed h r (pos w)))
    → Going rows cols h w xs₀ ws₀ ys vs (r + 1)
row_step rows cols h w xs₀ ws₀ xs ws r ys vs d g l ey ev = go g.left g.all g.read g.fit g.goes
  where
    k : 2 * rows ≤ length ws
    k = omega (arith, d.pairs, g.same_words)

    is : sketch_of ys vs rows ≡ add_row cols h w r (sketch_of xs ws rows)
    is = rw (ey, ev) (cell_stored rows (cell_of cols h r) r (signed h r (pos w)) xs ws l k)

    before : cell_of cols h r < suc r * cols
    before = cell-before cols h r (suc r) d.shaped.some (omega arith)

    go : (n : ℕ) → n + r ≡ rows → rows_read cols h (sketch_of xs ws rows) n r ≡ true → rows_fit cols h w xs n r ≡ true
        → add_rows cols h w n r (sketch_of xs ws rows) ≡ add_rows cols h w rows 0 (sketch_of xs₀ ws₀ rows)
        → Going rows cols h w xs₀ ws₀ ys vs (r + 1)
    go zero e p q z = absurd (omega arith)
    go (suc n) e p q z =
        record {
          left = n;
          all = omega arith;
          same_cells = ap length ey ∙ length-set xs _ _ ∙ g.same_cells;
          same_words = ap length ev ∙ length-set_norm ws r _ ∙ g.same_words;
          read = rw add-one (ap (λ (s : Sketch). rows_read cols h s n (suc r)) is ∙ read_later cols h (cell_of cols h r) r (signed h r (pos w)) (sketch_of xs ws rows) n (suc r) before (omega arith)
              ∙ and_right (row_read (cell_at xs (cell_of cols h r)) (norm_at ws r) cols) (rows_read cols h (sketch_of xs ws rows) n (suc r)) (sym (read_step cols h xs ws rows n r l) ∙ p));
          fit = rw (add-one, ey) (fit_later cols h w (cell_of cols h r) xs (cell_at xs (cell_of cols h r) +ℤ signed h r (pos w)) n (suc r) before
              ∙ and_right (cell_fits (cell_of cols h r) (signed h r (pos w)) xs) (rows_fit cols h w xs n (suc r)) (sym (fit-step cols h w xs n r) ∙ q));
          goes = rw add-one (ap (λ (s : Sketch). add_rows cols h w n (suc r) s) is ∙ add_step cols h w n r (sketch_of xs ws rows) ∙ z);
        }

nothing : (cols h w r : ℕ) (s : Sketch) → s ≡ add_rows cols h w 0 r s
unfolding add_rows
nothing cols h w r s = refl

pub end_rows : (rows cols h w : ℕ) (xs₀ : List ℤ) (ws₀ : List ℕ) (xs : List ℤ) (ws : List ℕ) (r : ℕ) → Going rows cols h w xs₀ ws₀ xs ws r → rows ≤ r
    → sketch_of xs ws rows ≡ add_rows cols h w rows 0 (sketch_of xs₀ ws₀ rows)
end_rows rows cols h w xs₀ ws₀ xs ws r g l = go g.left g.all g.goes
  where
    go : (n : ℕ) → n + r ≡ rows → add_rows cols h w n r (sketch_of xs ws rows) ≡ add_rows cols h w rows 0 (sketch_of xs₀ ws₀ rows) → sketch_of xs ws rows ≡ add_rows cols h w rows 0 (sketch_of xs₀ ws₀ rows)
    go zero e z = nothing cols h w r (sketch_of xs ws rows) ∙ z
    go (suc n) e z = absurd (omega arith)
