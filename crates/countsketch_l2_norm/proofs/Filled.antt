-- An update with the rows' estimates beside it, row by row: what a row stores leaves the estimates of the rows before it. Assumes nothing.
use mathlib.Core.Path.{◌≡◌, refl, sym, ap, ap₂, subst, ◌∙◌}
use Prim.Native.Nat.{ℕ, zero, suc, ◌+◌, ◌*◌, ◌^◌, ◌≤◌, ◌<◌}
use native.Mathlib.Omega.{arith}
use native.Mathlib.Nat.{le_refl}
use native.Mathlib.Numerals.{add-one}
use mathlib.Core.List.{List, [], ◌∷◌, ◌++◌}
use lib.ListN.{length, set, take, length-set}
use lib.Seq.{get_or-set_other, take-suc-set}
use lib.IntN.{ℤ, pos, ◌+ℤ◌}
use lib.Signed.{mag}
use borrow.Author.Rules.{sfits_of}
use mir.Syntax.{w64}
use mir.Val.{to_z, of_z}
use mir.Facts.{to_z-of_z}
use Rattle.words.specs.Num.{top}
use Rattle.matrix_storage.specs.Bits.{max_rows, signed}
use Rattle.structure_utils.specs.Median.{sort_z, middle}
use Rattle.countsketch_l2_norm.specs.Sketch.{cell_of, cell_at, add_rows}
use Rattle.countsketch_l2_norm.specs.Estimate.{estimates, estimate_of}
use Rattle.countsketch_l2_norm.specs.inner.Needs.{sketch_of, Ready, CellReady, RowAdded}
use Rattle.countsketch_l2_norm.proofs.Places.{cell-before}
use Rattle.countsketch_l2_norm.proofs.Rows.{Going, start-rows, ready-row, row_step, end_rows}
use Rattle.countsketch_l2_norm.proofs.Estimates.{estimates-none, counted}

-- a store at row n or later leaves the estimates of rows before it
estimates-kept : (cols h n : ℕ) (xs : List ℤ) (at : ℕ) (v : ℤ) (k q : ℕ) → 1 ≤ cols → q + k ≤ n → n * cols ≤ at → estimates cols h (set xs at v) k q ≡ estimates cols h xs k q
unfolding estimates
estimates-kept cols h n xs at v zero q p i l = refl
estimates-kept cols h n xs at v (suc k) q p i l =
    ap₂ (λ (a : ℤ) (s : List ℤ). signed h q a ∷ s) (get_or-set_other xs at (cell_of cols h q) v (pos 0) (λ e. omega (arith, e, cell-before cols h q n p (omega arith), l)))
    (estimates-kept cols h n xs at v k (suc q) p (omega arith) l)

-- one row more, at the end
estimates_snoc : (cols h : ℕ) (xs : List ℤ) (k q i : ℕ) → q + k ≡ i → estimates cols h xs (suc k) q ≡ estimates cols h xs k q ++ (signed h i (cell_at xs (cell_of cols h i)) ∷ [])
unfolding estimates
estimates_snoc cols h xs zero q i e =
    let z : q ≡ i = omega arith in
    ap (λ (j : ℕ). signed h j (cell_at xs (cell_of cols h j)) ∷ []) z
estimates_snoc cols h xs (suc k) q i e = ap (λ (s : List ℤ). signed h q (cell_at xs (cell_of cols h q)) ∷ s) (estimates_snoc cols h xs k (suc q) i (omega arith))

-- r rows are updated, and es are their estimates
pub record Counted (rows cols h w : ℕ) (xs₀ : List ℤ) (ws₀ : List ℕ) (es xs : List ℤ) (ws : List ℕ) (r : ℕ) : Type 0 where
  pub going : Going rows cols h w xs₀ ws₀ xs ws r
  pub known : es ≡ estimates cols h xs r 0

pub count-start : {rows cols h w : ℕ} {xs : List ℤ} {ws : List ℕ} → Ready rows cols h w xs ws → Counted rows cols h w xs ws [] xs ws 0
count-start {rows} {cols} {h} {w} {xs} {ws} d = record { going = start-rows rows cols h w xs ws d; known = sym (estimates-none cols h xs 0) }

count_on : (rows cols h w : ℕ) (xs₀ : List ℤ) (ws₀ : List ℕ) (es xs : List ℤ) (ws : List ℕ) (r : ℕ) (ys : List ℤ) (vs : List ℕ) (v : ℤ)
    → Ready rows cols h w xs₀ ws₀ → Counted rows cols h w xs₀ ws₀ es xs ws r → r < rows → RowAdded (cell_of cols h r) h w r xs ws ys vs v
    → Counted rows cols h w xs₀ ws₀ (es ++ (v ∷ [])) ys vs (r + 1)
count_on rows cols h w xs₀ ws₀ es xs ws r ys vs v d f l a =
    record {
      going = row_step rows cols h w xs₀ ws₀ xs ws r ys vs d f.going l a.cells a.norms;
      known = rw add-one (ap₂ (λ (s : List ℤ) (z : ℤ). s ++ (z ∷ [])) before a.estimate ∙ sym (estimates_snoc cols h ys r 0 r (omega arith)));
    }
  where
    before : es ≡ estimates cols h ys r 0
    before =
        f.known ∙ sym (estimates-kept cols h r xs (cell_of cols h r) (cell_at xs (cell_of cols h r) +ℤ signed h r (pos w)) r 0 d.shaped.some (omega arith) (omega arith))
        ∙ ap (λ (s : List ℤ). estimates cols h s r 0) (sym a.cells)

-- what `update_row` asks for
pub row_asks : {rows cols at h w : ℕ} {xs₀ : List ℤ} {ws₀ : List ℕ} {xs : List ℤ} {ws : List ℕ} {r : ℕ} → Ready rows cols h w xs₀ ws₀ → at ≡ cell_of cols h r → Going rows cols h w xs₀ ws₀ xs ws r → r < rows
    → ((r < max_rows) × (w ≤ top)) × CellReady at r (signed h r (pos w)) xs ws
row_asks {rows} {cols} {at} {h} {w} {xs₀} {ws₀} {xs} {ws} {r} d e g l =
    ((omega (arith, d.shaped.few), d.light), subst (λ (i : ℕ). CellReady i r (signed h r (pos w)) xs ws) (sym e) (ready-row rows cols h w xs₀ ws₀ xs ws r d g l))

-- what it answers: its place is the hash's, and the estimate is read back from its bits
pub added_bits : (cols : ℕ) {at h w r : ℕ} {xs : List ℤ} {ws : List ℕ} {ys : List ℤ} {vs : List ℕ} {v z : ℤ} → at ≡ cell_of cols h r → z ≡ v → RowAdded at h w r xs ws ys vs v → RowAdded (cell_of cols h r) h w r xs ws ys vs z
added_bits cols {at} {h} {w} {r} {xs} {ws} {ys} {vs} {v} {z} p e a =
    subst (λ (i : ℕ). RowAdded i h w r xs ws ys vs z) p (record { cells = a.cells; norms = a.norms; estimate = e ∙ a.estimate })

-- all rows are updated
count_end : (rows cols h w : ℕ) (xs₀ : List ℤ) (ws₀ : List ℕ) (es xs : List ℤ) (ws : List ℕ) (r : ℕ) → Counted rows cols h w xs₀ ws₀ es xs ws r → rows ≤ r → es ≡ estimates cols h xs rows 0
count_end rows cols h w xs₀ ws₀ es xs ws r f l =
    let e : r ≡ rows = omega (arith, f.going.all) in
    f.known ∙ ap (λ (n : ℕ). estimates cols h xs n 0) e

-- ---- in locals: the answers of `update_row` one after the other, and their median

pub count_more : {rows cols at h w : ℕ} {xs₀ : List ℤ} {ws₀ : List ℕ} {es xs : List ℤ} {ws : List ℕ} {r : ℕ} {ys : List ℤ} {vs : List ℕ} {v : ℤ}
    → Ready rows cols h w xs₀ ws₀ → at ≡ cell_of cols h r → Counted rows cols h w xs₀ ws₀ es xs ws r → r < rows → mag v < 2 ^ 63 → RowAdded at h w r xs ws ys vs v
    → Counted rows cols h w xs₀ ws₀ (es ++ (to_z w64 (of_z w64 v) ∷ [])) ys vs (r + 1)
count_more {rows} {cols} {at} {h} {w} {xs₀} {ws₀} {es} {xs} {ws} {r} {ys} {vs} {v} d e f l k a =
    count_on rows cols h w xs₀ ws₀ es xs ws r ys vs (to_z w64 (of_z w64 v)) d f l (added_bits cols e (to_z-of_z {w = w64} (sfits_of k)) a)

pub count_done : {rows cols h w : ℕ} {xs₀ : List ℤ} {ws₀ : List ℕ} {es xs : List ℤ} {ws : List ℕ} {m : ℤ} → Counted rows cols h w xs₀ ws₀ es xs ws rows → m ≡ middle (sort_z es)
    → (sketch_of xs ws rows ≡ add_rows cols h w rows 0 (sketch_of xs₀ ws₀ rows)) × (m ≡ estimate_of rows cols h xs)
count_done {rows} {cols} {h} {w} {xs₀} {ws₀} {es} {xs} {ws} {m} f e =
    (end_rows rows cols h w xs₀ ws₀ xs ws rows f.going (le_refl rows), e ∙ counted rows cols h xs es (count_end rows cols h w xs₀ ws₀ es xs ws rows f (le_refl rows)))

-- ---- in a buffer: its first r places

pub record Filled (rows cols h w : ℕ) (xs₀ : List ℤ) (ws₀ : List ℕ) (buf xs : List ℤ) (ws : List ℕ) (r : ℕ) : Type 0 where
  pub counted : Counted rows cols h w xs₀ ws₀ (take r buf) xs ws r
  pub len : length buf ≡ max_rows

pub fill_start : (rows cols h w : ℕ) (buf xs : List ℤ) (ws : List ℕ) → Ready rows cols h w xs ws → length buf ≡ max_rows → Filled rows cols h w xs ws buf xs ws 0
fill_start rows cols h w buf xs ws d l = record { counted = count-start d; len = l }

pub fill_on : (rows cols h w : ℕ) (xs₀ : List ℤ) (ws₀ : List ℕ) (buf xs : List ℤ) (ws : List ℕ) (r : ℕ) (ys : List ℤ) (vs : List ℕ) (v : ℤ)
    → Ready rows cols h w xs₀ ws₀ → Filled rows cols h w xs₀ ws₀ buf xs ws r → r < rows → RowAdded (cell_of cols h r) h w r xs ws ys vs v
    → Filled rows cols h w xs₀ ws₀ (set buf r v) ys vs (r + 1)
fill_on rows cols h w xs₀ ws₀ buf xs ws r ys vs v d f l a =
    record {
      counted = subst (λ (s : List ℤ). Counted rows cols h w xs₀ ws₀ s ys vs (r + 1)) (sym (rw add-one (take-suc-set buf r v (omega (arith, f.len, d.shaped.few))))) (count_on rows cols h w xs₀ ws₀ (take r buf) xs ws r ys vs v d f.counted l a);
      len = length-set buf r v ∙ f.len;
    }

pub fill_end : (rows cols h w : ℕ) (xs₀ : List ℤ) (ws₀ : List ℕ) (buf xs : List ℤ) (ws : List ℕ) (r : ℕ) → Filled rows cols h w xs₀ ws₀ buf xs ws r → rows ≤ r → take rows buf ≡ estimates cols h xs rows 0
fill_end rows cols h w xs₀ ws₀ buf xs ws r f l =
    let e : r ≡ rows = omega (arith, f.counted.going.all) in
    sym (ap (λ (n : ℕ). take n buf) e) ∙ count_end rows cols h w xs₀ ws₀ (take r buf) xs ws r f.counted l
