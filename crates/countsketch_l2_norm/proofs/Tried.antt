-- An update that is made only where it may be: the rows judged one after the other, and what is answered. Assumes nothing.
use mathlib.Core.Path.{◌≡◌, refl, sym, ap, subst, ◌∙◌}
use mathlib.Core.Bool.{Bool, true, false, ◌&&◌}
use Prim.Native.Nat.{ℕ, suc, ◌+◌, ◌*◌, ◌^◌, ◌≤◌, ◌<◌}
use native.Mathlib.Omega.{arith}
use mathlib.Core.List.{List}
use lib.ListN.{length}
use Rattle.std.specs.Prelude.{None, Some}
use lib.IntN.{ℤ, pos}
use lib.Signed.{mag}
use Rattle.words.specs.Num.{top}
use Rattle.words.proofs.Bools.{and_left, and_right}
use Rattle.matrix_storage.specs.Bits.{max_rows, signed}
use Rattle.matrix_storage.specs.inner.Shaped.{Shaped}
use Rattle.countsketch_l2_norm.specs.Norms.{norm_at}
use Rattle.countsketch_l2_norm.specs.Sketch.{cell_of, cell_at, add_rows, row_read, cell_fits, rows_read, rows_fit}
use Rattle.countsketch_l2_norm.specs.Estimate.{estimate_of}
use Rattle.countsketch_l2_norm.specs.inner.Needs.{sketch_of, rows_ready, Ready, MadeIfReady}
use Rattle.countsketch_l2_norm.proofs.Places.{cell-lt}
use Rattle.countsketch_l2_norm.proofs.Scans.{Scan, scan_start, scan_on, scan_stop, scan_end}
use Rattle.countsketch_l2_norm.proofs.Rows.{ready-step, ready-none}

-- what a judging function asks for
abbrev pub Roomy : (rows cols w : ℕ) (xs : List ℤ) (ws : List ℕ) → Type 0
Roomy rows cols w xs ws = Shaped rows cols × ((rows * cols ≤ length xs) × ((2 * rows ≤ length ws) × (w ≤ top)))

-- ---- row by row

-- the rows before r may take the weight: those left say whether all may
pub record Judging (rows cols h w : ℕ) (xs : List ℤ) (ws : List ℕ) (r : ℕ) : Type 0 where
  pub roomy : Roomy rows cols w xs ws
  pub scan : Scan (rows_ready cols h w (sketch_of xs ws rows)) rows r

pub judge-start : {rows cols h w : ℕ} {xs : List ℤ} {ws : List ℕ} → Roomy rows cols w xs ws → Judging rows cols h w xs ws 0
judge-start {rows} {cols} {h} {w} {xs} {ws} a = record { roomy = a; scan = scan_start (rows_ready cols h w (sketch_of xs ws rows)) rows }

-- what `row_ready_at` asks for
pub judge_asks : {rows cols at h w : ℕ} {xs : List ℤ} {ws : List ℕ} {r : ℕ} → Judging rows cols h w xs ws r → at ≡ cell_of cols h r → r < rows → ((r < max_rows) × (w ≤ top)) × ((at < length xs) × (2 * r + 1 < length ws))
judge_asks {rows} {cols} {at} {h} {w} {xs} {ws} {r} j e l =
    let a = j.roomy in (
      (omega (arith, a.0.few), a.1.1.1),
      (subst (λ (i : ℕ). i < length xs) (sym e) (cell-lt rows cols h r (length xs) a.0.some l a.1.0), omega (arith, a.1.1.0)),
    )

-- whether row r may, with the place of its counter
abbrev pub row_may : (at cols h w r : ℕ) (xs : List ℤ) (ws : List ℕ) → Bool
row_may at cols h w r xs ws = row_read (cell_at xs at) (norm_at ws r) cols && cell_fits at (signed h r (pos w)) xs

row_next : (rows cols at h w : ℕ) (xs : List ℤ) (ws : List ℕ) (r : ℕ) → at ≡ cell_of cols h r → r < rows → (k : ℕ)
    → rows_ready cols h w (sketch_of xs ws rows) (suc k) r ≡ row_may at cols h w r xs ws && rows_ready cols h w (sketch_of xs ws rows) k (suc r)
row_next rows cols at h w xs ws r e l k =
    ready-step cols h w xs ws rows k r l ∙ ap (λ (i : ℕ). row_may i cols h w r xs ws && rows_ready cols h w (sketch_of xs ws rows) k (suc r)) (sym e)

-- row r says b: yes
pub judge_on : {rows cols at h w : ℕ} {xs : List ℤ} {ws : List ℕ} {r : ℕ} {b : Bool} → Judging rows cols h w xs ws r → at ≡ cell_of cols h r → r < rows → b ≡ row_may at cols h w r xs ws → b ≡ true → Judging rows cols h w xs ws (r + 1)
judge_on {rows} {cols} {at} {h} {w} {xs} {ws} {r} {b} j e l t p =
    record {
      roomy = j.roomy;
      scan = scan_on (rows_ready cols h w (sketch_of xs ws rows)) rows r (row_may at cols h w r xs ws) j.scan l (row_next rows cols at h w xs ws r e l) (sym t ∙ p);
    }

-- or no
pub judge_stop : {rows cols at h w : ℕ} {xs : List ℤ} {ws : List ℕ} {r : ℕ} {b : Bool} → Judging rows cols h w xs ws r → at ≡ cell_of cols h r → r < rows → b ≡ row_may at cols h w r xs ws → b ≡ false
    → false ≡ rows_ready cols h w (sketch_of xs ws rows) rows 0
judge_stop {rows} {cols} {at} {h} {w} {xs} {ws} {r} {b} j e l t p = scan_stop (rows_ready cols h w (sketch_of xs ws rows)) rows r (row_may at cols h w r xs ws) j.scan l (row_next rows cols at h w xs ws r e l) (sym t ∙ p)

pub judge_end : {rows cols h w : ℕ} {xs : List ℤ} {ws : List ℕ} {r : ℕ} → Judging rows cols h w xs ws r → rows ≤ r → true ≡ rows_ready cols h w (sketch_of xs ws rows) rows 0
judge_end {rows} {cols} {h} {w} {xs} {ws} {r} j l = scan_end (rows_ready cols h w (sketch_of xs ws rows)) rows r j.scan l (ready-none cols h w (sketch_of xs ws rows) r)

-- ---- what is answered

-- every row says yes: the stores may be made
pub ready_of : {rows cols h w : ℕ} {xs : List ℤ} {ws : List ℕ} → Roomy rows cols w xs ws → true ≡ rows_ready cols h w (sketch_of xs ws rows) rows 0 → Ready rows cols h w xs ws
ready_of {rows} {cols} {h} {w} {xs} {ws} a e =
    record {
      shaped = a.0;
      room = a.1.0;
      pairs = a.1.1.0;
      light = a.1.1.1;
      read = and_left (rows_read cols h (sketch_of xs ws rows) rows 0) (rows_fit cols h w xs rows 0) (sym e);
      fit = and_right (rows_read cols h (sketch_of xs ws rows) rows 0) (rows_fit cols h w xs rows 0) (sym e);
    }

-- a row says no: nothing is touched
pub made-not : {rows cols h w : ℕ} {xs : List ℤ} {ws : List ℕ} → false ≡ rows_ready cols h w (sketch_of xs ws rows) rows 0 → MadeIfReady rows cols h w xs ws xs ws None
made-not e = record { ready = e; made = tt; kept = (refl, refl); fits = tt }

-- the stores are made, and v is the count after them, read back from its bits
pub made_done : {rows cols h w : ℕ} {xs : List ℤ} {ws : List ℕ} {ys : List ℤ} {vs : List ℕ} {v z : ℤ} → true ≡ rows_ready cols h w (sketch_of xs ws rows) rows 0 → z ≡ v → mag v < 2 ^ 63
    → (sketch_of ys vs rows ≡ add_rows cols h w rows 0 (sketch_of xs ws rows)) × (v ≡ estimate_of rows cols h ys) → MadeIfReady rows cols h w xs ws ys vs (Some z)
made_done e b k a = record { ready = e; made = (a.0, b ∙ a.1); kept = tt; fits = subst (λ (n : ℤ). mag n < 2 ^ 63) (sym b) k }
