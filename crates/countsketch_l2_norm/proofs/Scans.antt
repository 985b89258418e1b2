-- A scan over the rows: while all have passed, the test of those left is the test of all. Assumes nothing.
use mathlib.Core.Path.{◌≡◌, refl, sym, ◌∙◌}
use mathlib.Core.Bool.{Bool, true, false, ◌&&◌}
use Prim.Native.Nat.{ℕ, zero, suc, ◌+◌, ◌≤◌, ◌<◌}
use native.Mathlib.Omega.{arith}
use native.Mathlib.Numerals.{add-one}

-- f k r is the answer of k rows from row r on
pub record Scan (f : ℕ → ℕ → Bool) (rows r : ℕ) : Type 0 where
  pub left : ℕ
  pub all : left + r ≡ rows
  pub goes : f left r ≡ f rows 0

pub scan_on : (f : ℕ → ℕ → Bool) (rows r : ℕ) (t : Bool) → Scan f rows r → r < rows → ((k : ℕ) → f (suc k) r ≡ t && f k (suc r)) → t ≡ true → Scan f rows (r + 1)
scan_on f rows r t s l step e = go s.left s.all s.goes
  where
    go : (n : ℕ) → n + r ≡ rows → f n r ≡ f rows 0 → Scan f rows (r + 1)
    go zero q z = absurd (omega arith)
    go (suc n) q z = record { left = n; all = omega arith; goes = rw add-one (sym (step n ∙ rw e) ∙ z) }

pub scan_stop : (f : ℕ → ℕ → Bool) (rows r : ℕ) (t : Bool) → Scan f rows r → r < rows → ((k : ℕ) → f (suc k) r ≡ t && f k (suc r)) → t ≡ false → false ≡ f rows 0
scan_stop f rows r t s l step e = go s.left s.all s.goes
  where
    go : (n : ℕ) → n + r ≡ rows → f n r ≡ f rows 0 → false ≡ f rows 0
    go zero q z = absurd (omega arith)
    go (suc n) q z = sym (step n ∙ rw e) ∙ z

pub scan_end : (f : ℕ → ℕ → Bool) (rows r : ℕ) → Scan f rows r → rows ≤ r → f 0 r ≡ true → true ≡ f rows 0
scan_end f rows r s l e = go s.left s.all s.goes
  where
    go : (n : ℕ) → n + r ≡ rows → f n r ≡ f rows 0 → true ≡ f rows 0
    go zero q z = sym e ∙ z
    go (suc n) q z = absurd (omega arith)

pub scan_start : (f : ℕ → ℕ → Bool) (rows : ℕ) → Scan f rows 0
scan_start f rows = record { left = rows; all = omega arith; goes = refl }
