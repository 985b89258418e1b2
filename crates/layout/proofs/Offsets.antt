-- Where layers stand in the slices. Assumes nothing.
use mathlib.Core.Path.{◌≡◌, refl, sym, ap, ◌∙◌}
use mathlib.Core.Bool.{Bool, true, false, cond}
use Prim.Native.Nat.{ℕ, zero, suc, ◌+◌, ◌-◌, ◌*◌, ◌≤◌, ◌<◌, min}
use lib.Dec.{ltb}
use borrow.Author.Tests.{ltb-true, ltb-false}
use native.Mathlib.Nat.{suc-mul, mul_assoc, mul-le-mul, le_trans, le_refl}
use native.Mathlib.Decide.{ℕ_discrete}
use native.Mathlib.Omega.{arith}
use Rattle.matrix_storage.specs.Bits.{max_rows, max_cols}
use Rattle.matrix_storage.specs.inner.Shaped.{Shaped}
use Rattle.countsketch_l2_norm.specs.Merge.{sum_below}
use Rattle.header.specs.declared.Shape.{Shape}
use Rattle.header.specs.Shape.{max_layers, max_heap}
use Rattle.header.specs.inner.Accepted.{Accepted}
use Rattle.layout.specs.State.{rows_at, cols_at, cell_off, norm_off, cand_off}
use Rattle.layout.specs.Slices.{cells_in, norms_in, cands_in}
use Rattle.layout.specs.inner.Spans.{elephants_before}

-- a part ends where the next begins, or before
pub off_step : (f : ℕ → ℕ) (l m : ℕ) → l < m → sum_below l f + f l ≤ sum_below m f
unfolding sum_below
off_step f l zero h = absurd (omega arith)
off_step f l (suc m) h = go (off_step f l m) (ℕ_discrete l m)
  where
    go : (l < m → sum_below l f + f l ≤ sum_below m f) → Dec (l ≡ m) → sum_below l f + f l ≤ sum_below m f + f m
    go ih (yes e) = rw e (omega arith)
    go ih (no k) = omega (arith, ih (omega arith))

-- so a layer's part ends within the slice
module _ (sh : Shape) (l : ℕ) (h : l < sh.layers) where
  pub cell_end : cell_off sh l + rows_at sh l * cols_at sh l ≤ cells_in sh
  unfolding cell_off
  cell_end = off_step (λ m. rows_at sh m * cols_at sh m) l sh.layers h

  pub norm_end : norm_off sh l + rows_at sh l ≤ norms_in sh
  unfolding norm_off
  norm_end = off_step (λ m. rows_at sh m) l sh.layers h

  pub cand_end : cand_off sh l + sh.heap_size ≤ cands_in sh
  unfolding cand_off
  cand_end = off_step (λ m. sh.heap_size) l sh.layers h

-- ---- an accepted shape, layer by layer

-- every layer has rows and columns that are refused by nothing
pub shaped-at : (sh : Shape) → Accepted sh → (l : ℕ) → Shaped (rows_at sh l) (cols_at sh l)
unfolding rows_at cols_at
shaped-at sh a l = go (ltb l sh.elephant_layers)
  where
    go : (b : Bool) → Shaped (cond b sh.elephant_rows sh.mouse_rows) (cond b sh.elephant_cols sh.mouse_cols)
    go true = a.elephant
    go false = a.mouse

pub table_bound : (sh : Shape) → Accepted sh → (l : ℕ) → rows_at sh l * cols_at sh l ≤ max_rows * max_cols
table_bound sh a l = mul-le-mul (shaped-at sh a l).few (shaped-at sh a l).wide

sum-most : (n b : ℕ) (f : ℕ → ℕ) → ((m : ℕ) → f m ≤ b) → sum_below n f ≤ n * b
unfolding sum_below
sum-most zero b f h = omega arith
sum-most (suc n) b f h = omega (arith, sum-most n b f h, h n, suc-mul n b)

-- where a layer can begin at most, and so how long the slices can be
module _ (sh : Shape) (a : Accepted sh) (l : ℕ) (h : l ≤ sh.layers) where
  most : (b : ℕ) (f : ℕ → ℕ) → ((m : ℕ) → f m ≤ b) → sum_below l f ≤ max_layers * b
  most b f k = le_trans (sum-most l b f k) (mul-le-mul (le_trans h a.few) (le_refl b))

  pub cells_bound : cell_off sh l ≤ max_layers * (max_rows * max_cols)
  unfolding cell_off
  cells_bound = most (max_rows * max_cols) (λ m. rows_at sh m * cols_at sh m) (table_bound sh a)

  pub norms_bound : norm_off sh l ≤ max_layers * max_rows
  unfolding norm_off
  norms_bound = most max_rows (λ m. rows_at sh m) (λ m. (shaped-at sh a m).few)

  pub seats_bound : cand_off sh l ≤ max_layers * max_heap
  unfolding cand_off
  seats_bound = most max_heap (λ m. sh.heap_size) (λ m. a.small)

-- ---- a tier's layers have the same rows and columns, so an offset is two products: only for this crate's functions that work it out

sum_same : (n c : ℕ) → sum_below n (λ m. c) ≡ n * c
unfolding sum_below
sum_same zero c = omega arith
sum_same (suc n) c = omega (arith, sum_same n c, suc-mul n c)

-- w terms of a, and then terms of b
sum_tiers : (w a b : ℕ) (f : ℕ → ℕ) → ((m : ℕ) → f m ≡ cond (ltb m w) a b) → (n : ℕ) → sum_below n f ≡ min n w * a + (n - min n w) * b
unfolding sum_below
sum_tiers w a b f h zero =
    let p : min 0 w ≡ 0 = omega arith in
    rw p (omega arith)
sum_tiers w a b f h (suc n) = go (sum_tiers w a b f h n) (ltb n w) refl
  where
    go : sum_below n f ≡ min n w * a + (n - min n w) * b → (t : Bool) → ltb n w ≡ t → sum_below n f + f n ≡ min (suc n) w * a + (suc n - min (suc n) w) * b
    go ih true e =
        let l : n < w = ltb-true n w e in
        let p : min n w ≡ n = omega arith in
        let q : min (suc n) w ≡ suc n = omega arith in
        let z : suc n - suc n ≡ n - n = omega arith in
        rw q (rw z (omega (arith, rw p at ih, h n ∙ ap (λ (x : Bool). cond x a b) e, suc-mul n a)))
    go ih false e =
        let l : w ≤ n = ltb-false n w e in
        let p : min n w ≡ w = omega arith in
        let q : min (suc n) w ≡ w = omega arith in
        let z : suc n - w ≡ suc (n - w) = omega arith in
        rw q (rw z (omega (arith, rw p at ih, h n ∙ ap (λ (x : Bool). cond x a b) e, suc-mul (n - w) b)))

both-mul : (t : Bool) (a b c d : ℕ) → cond t a b * cond t c d ≡ cond t (a * c) (b * d)
both-mul true a b c d = refl
both-mul false a b c d = refl

module _ (sh : Shape) (l : ℕ) where
  abbrev elephants : ℕ
  elephants = elephants_before sh l

  pub cell-off : cell_off sh l ≡ elephants * sh.elephant_rows * sh.elephant_cols + (l - elephants) * sh.mouse_rows * sh.mouse_cols
  unfolding cell_off rows_at cols_at
  cell-off =
      sum_tiers sh.elephant_layers (sh.elephant_rows * sh.elephant_cols) (sh.mouse_rows * sh.mouse_cols) (λ m. rows_at sh m * cols_at sh m)
      (λ m. both-mul (ltb m sh.elephant_layers) sh.elephant_rows sh.mouse_rows sh.elephant_cols sh.mouse_cols) l
      ∙ sym (rw (mul_assoc elephants sh.elephant_rows sh.elephant_cols, mul_assoc (l - elephants) sh.mouse_rows sh.mouse_cols))

  pub norm-off : norm_off sh l ≡ elephants * sh.elephant_rows + (l - elephants) * sh.mouse_rows
  unfolding norm_off rows_at
  norm-off = sum_tiers sh.elephant_layers sh.elephant_rows sh.mouse_rows (λ m. rows_at sh m) (λ m. refl) l

  pub cand-off : cand_off sh l ≡ l * sh.heap_size
  unfolding cand_off
  cand-off = sum_same l sh.heap_size
