-- "A norm is its row's sum of capped squares.": an update and a delta keep it so, and a merge makes it so. Assumes nothing.
use mathlib.Core.Path.{◌≡◌, refl, sym, ap, ap₂, ◌∙◌}
use mathlib.Core.Bool.{Bool, true, false}
use Prim.Native.Nat.{ℕ, zero, suc, ◌+◌, ◌-◌, ◌*◌, ◌≤◌, ◌<◌}
use native.Mathlib.Omega.{arith}
use mathlib.Core.List.{List}
use lib.ListN.{length, get_or, set, length-set}
use lib.Seq.{get_or-set_same, get_or-set_other, ext_get_or}
use lib.IntN.{ℤ, pos, ◌+ℤ◌}
use lib.Dec.{eqb}
use borrow.Author.Tests.{eqb-true, eqb-false, le-leb}
use Rattle.words.specs.Num.{square_cap, in_range, capped}
use Rattle.words.proofs.Bools.{and_left, and_right, both}
use Rattle.matrix_storage.specs.Bits.{column, signed}
use Rattle.matrix_storage.proofs.Cells.{column-lt}
use Rattle.countsketch_l2_norm.specs.Sketch.{Sketch, cell_of, cell_at, add_cell, add_row, add_rows, rows_read}
use Rattle.countsketch_l2_norm.specs.Estimate.{cells_in_range}
use Rattle.countsketch_l2_norm.specs.Merge.{sum_below, squares_from, row_norm, row_norms}
use Rattle.countsketch_l2_norm.proofs.Places.{place-lt, same_row, same-col}
use Rattle.countsketch_l2_norm.proofs.Merges.{length-row_norms, row_at, squares-most}
use Rattle.countsketch_l2_norm.proofs.After.{length-cell}

-- every norm is its row's sum of capped squares
abbrev pub Kept : ℕ → ℕ → Sketch → Type 0
Kept rows cols s = s.norms ≡ row_norms cols s.cells rows 0

-- ---- sums

pub sum_same : (n : ℕ) (f g : ℕ → ℕ) → ((c : ℕ) → c < n → g c ≡ f c) → sum_below n g ≡ sum_below n f
unfolding sum_below
sum_same zero f g h = refl
sum_same (suc n) f g h = ap₂ ◌+◌ (sum_same n f g (λ c l. h c (omega arith))) (h n (omega arith))

-- one summand changes
sum-change : (n : ℕ) (f g : ℕ → ℕ) (j : ℕ) → j < n → ((c : ℕ) → c < n → (c ≡ j → ⊥) → g c ≡ f c) → sum_below n g + f j ≡ sum_below n f + g j
unfolding sum_below
sum-change zero f g j l h = absurd (omega arith)
sum-change (suc n) f g j l h = go (sum-change n f g j) (eqb n j) refl
  where
    go : (j < n → ((c : ℕ) → c < n → (c ≡ j → ⊥) → g c ≡ f c) → sum_below n g + f j ≡ sum_below n f + g j) → (t : Bool) → eqb n j ≡ t → sum_below n g + g n + f j ≡ sum_below n f + f n + g j
    go ih true e =
        let q : n ≡ j = eqb-true n j e in
        omega (arith, sum_same n f g (λ c k. h c (omega arith) (λ z. omega (arith, z, q))), ap f q, ap g q)
    go ih false e =
        let q : n ≡ j → ⊥ = eqb-false n j e in
        omega (arith, h n (omega arith) q, ih (omega (arith, q)) (λ c k. h c (omega arith)))

sum-part : (n : ℕ) (f : ℕ → ℕ) (j : ℕ) → j < n → f j ≤ sum_below n f
unfolding sum_below
sum-part zero f j l = absurd (omega arith)
sum-part (suc n) f j l = go (sum-part n f j) (eqb n j) refl
  where
    go : (j < n → f j ≤ sum_below n f) → (t : Bool) → eqb n j ≡ t → f j ≤ sum_below n f + f n
    go ih true e = omega (arith, ap f (eqb-true n j e))
    go ih false e = let q : n ≡ j → ⊥ = eqb-false n j e in omega (arith, ih (omega (arith, q)))

-- a row's norm holds the square of each of its counters
pub norm-holds : (cols r c : ℕ) (xs : List ℤ) → c < cols → capped (cell_at xs (r * cols + c)) ≤ row_norm cols xs r
unfolding squares_from
norm-holds cols r c xs l = sum-part cols (λ e. capped (cell_at xs (r * cols + e))) c l

-- ---- one counter changes

-- its row's norm gives up the old square and takes the new one
row_changed : (cols r c : ℕ) (xs : List ℤ) (v : ℤ) → c < cols → r * cols + c < length xs
    → row_norm cols xs r - capped (cell_at xs (r * cols + c)) + capped v ≡ row_norm cols (set xs (r * cols + c) v) r
unfolding squares_from
row_changed cols r c xs v l i =
    let f : ℕ → ℕ = λ e. capped (cell_at xs (r * cols + e)) in
    let g : ℕ → ℕ = λ e. capped (cell_at (set xs (r * cols + c) v) (r * cols + e)) in
    let here : g c ≡ capped v = ap capped (get_or-set_same xs (r * cols + c) v (pos 0) i) in
    let change : sum_below cols g + f c ≡ sum_below cols f + g c =
    sum-change cols f g c l (λ e k n. ap capped (get_or-set_other xs (r * cols + c) (r * cols + e) v (pos 0) (λ z. n (same-col cols r r e c k l z)))) in
    omega (arith, here, change, sum-part cols f c l)

-- and the other rows' norms stay
row_same : (cols q r c : ℕ) (xs : List ℤ) (v : ℤ) → c < cols → (q ≡ r → ⊥) → row_norm cols xs q ≡ row_norm cols (set xs (r * cols + c) v) q
unfolding squares_from
row_same cols q r c xs v l n =
    sym (sum_same cols (λ e. capped (cell_at xs (q * cols + e))) (λ e. capped (cell_at (set xs (r * cols + c) v) (q * cols + e)))
    (λ e k. ap capped (get_or-set_other xs (r * cols + c) (q * cols + e) v (pos 0) (λ z. n (same_row cols q r e c k l z)))))

pub kept-cell : (rows cols r c : ℕ) (d : ℤ) (s : Sketch) → r < rows → c < cols → rows * cols ≤ length s.cells → Kept rows cols s → Kept rows cols (add_cell (r * cols + c) r d s)
unfolding add_cell
kept-cell rows cols r c d s k l room e =
    ext_get_or 0 (set s.norms r new) (row_norms cols (set xs at v) rows 0) (length-set s.norms r new ∙ long ∙ sym (length-row_norms cols (set xs at v) rows 0))
    (λ i h. let j : i < rows = omega (arith, h, length-set s.norms r new, long) in
    go i j (eqb i r) refl ∙ sym (row_at cols (set xs at v) rows i j))
  where
    xs : List ℤ
    xs = s.cells

    at : ℕ
    at = r * cols + c

    v : ℤ
    v = cell_at xs at +ℤ d

    new : ℕ
    new = get_or s.norms r 0 - capped (cell_at xs at) + capped v

    long : length s.norms ≡ rows
    long = ap length e ∙ length-row_norms cols xs rows 0

    norm : (i : ℕ) → i < rows → get_or s.norms i 0 ≡ row_norm cols xs i
    norm i h = ap (λ (ns : List ℕ). get_or ns i 0) e ∙ row_at cols xs rows i h

    go : (i : ℕ) → i < rows → (t : Bool) → eqb i r ≡ t → get_or (set s.norms r new) i 0 ≡ row_norm cols (set xs at v) i
    go i h true q =
        let z : i ≡ r = eqb-true i r q in
        rw z (get_or-set_same s.norms r new 0 (omega (arith, long)) ∙ ap (λ (n : ℕ). n - capped (cell_at xs at) + capped v) (norm r k) ∙ row_changed cols r c xs v l (place-lt rows cols r c (length xs) k l room))
    go i h false q =
        let n : i ≡ r → ⊥ = eqb-false i r q in
        get_or-set_other s.norms r i new 0 n ∙ norm i h ∙ row_same cols i r c xs v l n

-- ---- an update, a merge

pub kept-rows : (rows cols h w k r : ℕ) (s : Sketch) → 1 ≤ cols → k + r ≤ rows → rows * cols ≤ length s.cells → Kept rows cols s → Kept rows cols (add_rows cols h w k r s)
unfolding add_rows
kept-rows rows cols h w zero r s p l room e = e
kept-rows rows cols h w (suc k) r s p l room e =
    kept-rows rows cols h w k (suc r) (add_row cols h w r s) p (omega arith) (omega (arith, length-cell (cell_of cols h r) r (signed h r (pos w)) s))
    (kept-cell rows cols r (column cols h r) (signed h r (pos w)) s (omega arith) (column-lt cols h r p) room e)

-- ---- norms that are kept are in range: what an update reads is in range where the counters are
pub kept_read : (rows cols h : ℕ) (s : Sketch) (k r : ℕ) → 1 ≤ cols → k + r ≤ rows → Kept rows cols s → cells_in_range cols h s.cells k r ≡ true → rows_read cols h s k r ≡ true
unfolding cells_in_range rows_read
kept_read rows cols h s zero r p l e i = refl
kept_read rows cols h s (suc k) r p l e i =
    let x = cell_at s.cells (cell_of cols h r) in
    let n : get_or s.norms r 0 ≡ row_norm cols s.cells r = ap (λ (ns : List ℕ). get_or ns r 0) e ∙ row_at cols s.cells rows r (omega arith) in
    both (both (both (and_left (in_range x) (cells_in_range cols h s.cells k (suc r)) i)
    (le-leb (get_or s.norms r 0) (cols * square_cap) (omega (arith, n, squares-most (r * cols) cols s.cells))))
    (le-leb (capped x) (get_or s.norms r 0) (omega (arith, n, norm-holds cols r (column cols h r) s.cells (column-lt cols h r p)))))
    (kept_read rows cols h s k (suc r) p (omega arith) e (and_right (in_range x) (cells_in_range cols h s.cells k (suc r)) i))
