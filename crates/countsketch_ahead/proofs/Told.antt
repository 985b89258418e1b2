-- What counting asks for, row by row, and what is answered. Assumes nothing.
use mathlib.Core.Path.{◌≡◌, sym, ap, subst, ◌∙◌}
use mathlib.Core.Bool.{true, false}
use Prim.Native.Nat.{ℕ, suc, ◌^◌, ◌≤◌, ◌<◌}
use native.Mathlib.Omega.{arith}
use mathlib.Core.List.{List, ◌∷◌}
use lib.ListN.{length}
use Rattle.std.specs.Prelude.{None, Some}
use lib.IntN.{ℤ, nat_abs}
use lib.Signed.{mag}
use borrow.Author.Rules.{sfits_of}
use mir.Syntax.{w64}
use mir.Val.{to_z, of_z}
use mir.Facts.{to_z-of_z}
use Rattle.words.specs.Num.{top}
use Rattle.matrix_storage.specs.Bits.{max_rows}
use Rattle.structure_utils.specs.Median.{sort_z, middle}
use Rattle.countsketch_l2_norm.specs.Norms.{norms_of}
use Rattle.countsketch_l2_norm.specs.Sketch.{cell_of, cell_at}
use Rattle.countsketch_l2_norm.specs.inner.Needs.{sketch_of, rows_ready, Ready}
use Rattle.countsketch_l2_norm.proofs.Places.{cell-lt}
use Rattle.countsketch_l2_norm.proofs.After.{cell_in_lem, read-cells}
use Rattle.countsketch_ahead.specs.inner.Needs.{ahead_at, estimates_ahead, Countable, CountedIfReady}
use Rattle.countsketch_ahead.proofs.Ahead.{ahead_more, ahead-count}

-- ---- what is asked for

-- an update that may be made may be counted
pub countable_of : {rows cols h w : ℕ} {xs : List ℤ} {ws : List ℕ} → Ready rows cols h w xs ws → Countable rows cols h w xs
countable_of {rows} {cols} {h} {w} {xs} {ws} d =
    record { shaped = d.shaped; room = d.room; light = d.light; cells = read-cells cols h (sketch_of xs ws rows) rows 0 d.read; fit = d.fit }

-- what `row_ahead` asks for, the weight aside
pub row_asks : {rows cols at h w r : ℕ} {xs : List ℤ} → Countable rows cols h w xs → at ≡ cell_of cols h r → r < rows → (r < max_rows) × ((at < length xs) × (nat_abs (cell_at xs at) ≤ top))
row_asks {rows} {cols} {at} {h} {w} {r} {xs} d e l = (
  omega (arith, d.shaped.few),
  subst (λ (i : ℕ). (i < length xs) × (nat_abs (cell_at xs i) ≤ top)) (sym e) (cell-lt rows cols h r (length xs) d.shaped.some l d.room, cell_in_lem cols h xs rows r l d.cells),
)

-- ---- what is answered

-- the answers of `row_ahead` one before the other: its place is the hash's, and the estimate is read back from its bits
pub ahead_before : (cols h w : ℕ) (xs : List ℤ) (k r : ℕ) {at : ℕ} {es : List ℤ} {v : ℤ} → at ≡ cell_of cols h r → mag v < 2 ^ 63 → v ≡ ahead_at h w xs at r → es ≡ estimates_ahead cols h w xs k (suc r)
    → to_z w64 (of_z w64 v) ∷ es ≡ estimates_ahead cols h w xs (suc k) r
ahead_before cols h w xs k r {at} {es} {v} p b e a =
    ap (λ (l : List ℤ). to_z w64 (of_z w64 v) ∷ l) a
    ∙ sym (ahead_more cols h w xs k r (to_z w64 (of_z w64 v)) (to_z-of_z {w = w64} (sfits_of b) ∙ e ∙ ap (λ (i : ℕ). ahead_at h w xs i r) p))

-- a row says no
pub told-not : {rows cols h w : ℕ} {xs : List ℤ} {ws : List ℕ} → false ≡ rows_ready cols h w (sketch_of xs ws rows) rows 0 → CountedIfReady rows cols h w xs ws None
told-not e = record { ready = e; count = tt; fits = tt }

-- every row says yes, and v is the median of the rows' estimates after the update, read back from its bits
pub told-count : {rows cols h w : ℕ} {xs : List ℤ} {ws : List ℕ} {v z : ℤ} → true ≡ rows_ready cols h w (sketch_of xs ws rows) rows 0 → Countable rows cols h w xs → z ≡ v → mag v < 2 ^ 63
    → v ≡ middle (sort_z (estimates_ahead cols h w xs rows 0)) → CountedIfReady rows cols h w xs ws (Some z)
told-count {rows} {ws = ws} e d b k a =
    record { ready = e; count = b ∙ a ∙ ahead-count (norms_of ws rows) d; fits = subst (λ (n : ℤ). mag n < 2 ^ 63) (sym b) k }
