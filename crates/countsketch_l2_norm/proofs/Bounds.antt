-- Estimates and norms of counters that are in range, and the norms of zeros. Assumes nothing.
use mathlib.Core.Path.{◌≡◌, refl, ap, ◌∙◌, subst, sym}
use Prim.Native.Nat.{ℕ, zero, suc, ◌+◌, ◌-◌, ◌*◌, ◌/◌, ◌%◌, ◌≤◌, ◌<◌}
use native.Mathlib.Omega.{arith}
use mathlib.Core.Bool.{Bool, true, false, cond}
use mathlib.Core.List.{List}
use lib.ListN.{length, get_or, replicate, length-replicate, get_or-replicate}
use lib.IntN.{ℤ, pos, negsuc, nat_abs, ◌+ℤ◌}
use lib.Signed.{quot_z}
use lib.Dec.{eqb}
use borrow.Author.Tests.{le-leb}
use Rattle.words.specs.Num.{top, square_cap, in_range, all_in, capped}
use Rattle.words.proofs.Bools.{both}
use Rattle.words.proofs.Signed.{abs-add, abs_neg}
use Rattle.words.proofs.Squares.{range_bound, range_of, all-at}
use Rattle.words.proofs.Lists.{get_d_all}
use Rattle.structure_utils.specs.Median.{sort_z, middle}
use Rattle.structure_utils.proofs.Sorting.{all_sort}
use Rattle.countsketch_l2_norm.specs.Estimate.{estimates, estimate_of}
use Rattle.countsketch_l2_norm.specs.Merge.{row_norms, sum_below, squares_from}
use Rattle.countsketch_l2_norm.specs.L2.{norms_in_range}
use Rattle.countsketch_l2_norm.proofs.Merges.{squares-most, length-row_norms, row_at}
use Rattle.countsketch_l2_norm.proofs.After.{all-cells}
use lib.Seq.{ext_get_or}
use Rattle.countsketch_l2_norm.proofs.Estimates.{all-estimates}
use Rattle.countsketch_l2_norm.proofs.Kept.{Kept}

half_abs : (v : ℤ) → nat_abs v ≤ top + top → nat_abs (quot_z v (pos 2)) ≤ top
half_abs (pos a) h = omega arith
half_abs (negsuc a) h = omega (arith, abs_neg (pos (suc a / 2)))

pub middle_in : (xs : List ℤ) → all_in xs ≡ true → in_range (middle xs) ≡ true
unfolding middle
middle_in xs a = go (eqb (length xs % 2) 1)
  where
    x : ℤ
    x = get_or xs (length xs / 2 - 1) (pos 0)

    y : ℤ
    y = get_or xs (length xs / 2) (pos 0)

    go : (b : Bool) → in_range (cond b y (quot_z (x +ℤ y) (pos 2))) ≡ true
    go true = all-at xs a (length xs / 2)
    go false = range_of (quot_z (x +ℤ y) (pos 2)) (half_abs (x +ℤ y) (omega (arith, abs-add x y, range_bound x (all-at xs a (length xs / 2 - 1)), range_bound y (all-at xs a (length xs / 2)))))

pub count_in : (rows cols h : ℕ) (cells : List ℤ) → all_in cells ≡ true → in_range (estimate_of rows cols h cells) ≡ true
unfolding estimate_of
count_in rows cols h cells a =
    middle_in (sort_z (estimates cols h cells rows 0)) (all_sort (estimates cols h cells rows 0) (all-estimates cols h cells rows 0 (all-cells cols h cells rows 0 a)))

-- ---- the norms

pub norms_are : (cols : ℕ) (cells : List ℤ) (k r : ℕ) → norms_in_range cols (row_norms cols cells k r) ≡ true
unfolding norms_in_range row_norms
norms_are cols cells zero r = refl
norms_are cols cells (suc k) r = both (le-leb _ (cols * square_cap) (squares-most (r * cols) cols cells)) (norms_are cols cells k (suc r))

sum-none : (n : ℕ) (f : ℕ → ℕ) → ((c : ℕ) → f c ≡ 0) → sum_below n f ≡ 0
unfolding sum_below
sum-none zero f h = refl
sum-none (suc n) f h = omega (arith, sum-none n f h, h n)

-- zeros are the norms of zeros
pub kept-none : (rows cols : ℕ) → Kept rows cols (record { cells = replicate (rows * cols) (pos 0); norms = replicate rows 0 })
unfolding squares_from capped
kept-none rows cols =
    ext_get_or 0 (replicate rows 0) (row_norms cols cells rows 0) (length-replicate rows 0 ∙ sym (length-row_norms cols cells rows 0)) (λ i h. norm i (subst (λ (n : ℕ). i < n) (length-replicate rows 0) h))
  where
    cells : List ℤ
    cells = replicate (rows * cols) (pos 0)

    norm : (i : ℕ) → i < rows → get_or (replicate rows 0) i 0 ≡ get_or (row_norms cols cells rows 0) i 0
    norm i h = get_or-replicate rows i 0 0 h ∙ sym (row_at cols cells rows i h ∙ sum-none cols _ (λ c. ap capped (get_d_all (pos 0) (rows * cols) (i * cols + c))))
