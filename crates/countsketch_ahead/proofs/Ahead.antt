-- The rows' estimates after an update, each from its counter before it: they are the estimates of the counters that the update leaves. Assumes nothing.
use mathlib.Core.Path.{◌≡◌, refl, sym, ap, ap₂, ◌∙◌}
use mathlib.Core.Bool.{Bool, true, false, cond}
use Prim.Native.Nat.{ℕ, zero, suc, ◌+◌, ◌*◌, ◌/◌, ◌%◌, ◌-◌, ◌^◌, ◌≤◌, ◌<◌}
use native.Mathlib.Omega.{arith}
use native.Mathlib.Nat.{zero-add, suc-mul}
use mathlib.Core.List.{List, [], ◌∷◌}
use lib.ListN.{length, set, length-set}
use lib.Seq.{get_or-set_same, get_or-set_other}
use lib.IntN.{ℤ, pos, nat_abs, neg_ℤ, ◌+ℤ◌, neg_ℤ-neg_ℤ, neg_ℤ-+ℤ}
use lib.Dec.{eqb}
use mir.Syntax.{w64}
use mir.Val.{SFits, to_z, of_z}
use Rattle.words.specs.Num.{top, all_in}
use Rattle.words.proofs.Signed.{fits, back, abs-add}
use Rattle.matrix_storage.specs.Bits.{signed}
use Rattle.structure_utils.specs.Median.{sort_z, middle}
use Rattle.countsketch_l2_norm.specs.Sketch.{Sketch, cell_of, cell_at, add_cell, add_row, add_rows}
use Rattle.countsketch_l2_norm.specs.Estimate.{estimates, estimate_of}
use Rattle.countsketch_l2_norm.proofs.Places.{cell-lt, cell-before}
use Rattle.countsketch_l2_norm.proofs.After.{fit-after}
use Rattle.countsketch_l2_norm.proofs.Estimates.{counted_in, counted}
use Rattle.countsketch_ahead.specs.inner.Needs.{ahead_at, estimates_ahead, Countable}

-- ---- one row

-- a row's sign twice is none: its estimate after an update is its estimate before it, and the weight
pub signed-ahead : (h r : ℕ) (x d : ℤ) → signed h r x +ℤ d ≡ signed h r (x +ℤ signed h r d)
unfolding signed
signed-ahead h r x d = go (eqb (h / 2 ^ (127 - r) % 2) 1)
  where
    go : (t : Bool) → cond t x (neg_ℤ x) +ℤ d ≡ cond t (x +ℤ cond t d (neg_ℤ d)) (neg_ℤ (x +ℤ cond t d (neg_ℤ d)))
    go true = refl
    go false = sym (neg_ℤ-+ℤ x (neg_ℤ d) ∙ ap (λ (z : ℤ). neg_ℤ x +ℤ z) (neg_ℤ-neg_ℤ d))

-- the sum is a number of 64 bits, with the weight read as a signed one
pub sum_fits : (x : ℤ) (n : ℕ) → nat_abs x ≤ top → n ≤ top → SFits w64 (to_z w64 (of_z w64 x) +ℤ to_z w64 n)
sum_fits x n h k = rw (back x (omega arith), back (pos n) (omega arith)) (fits (x +ℤ pos n) (omega (arith, abs-add x (pos n))))

-- ---- all rows

pub ahead_none : (cols h w : ℕ) (xs : List ℤ) (r : ℕ) → estimates_ahead cols h w xs 0 r ≡ []
unfolding estimates_ahead
ahead_none cols h w xs r = refl

pub ahead_more : (cols h w : ℕ) (xs : List ℤ) (n r : ℕ) (v : ℤ) → v ≡ ahead_at h w xs (cell_of cols h r) r → estimates_ahead cols h w xs (suc n) r ≡ v ∷ estimates_ahead cols h w xs n (suc r)
unfolding estimates_ahead
ahead_more cols h w xs n r v e = ap (λ (z : ℤ). z ∷ estimates_ahead cols h w xs n (suc r)) (sym e)

-- a counter before row q is left alone by the rows from q on
before-kept : (cols h w : ℕ) (k q at : ℕ) (s : Sketch) → at < q * cols → cell_at (add_rows cols h w k q s).cells at ≡ cell_at s.cells at
unfolding add_rows add_cell
before-kept cols h w zero q at s l = refl
before-kept cols h w (suc k) q at s l =
    before-kept cols h w k (suc q) at (add_row cols h w q s) (omega (arith, l, suc-mul q cols))
    ∙ get_or-set_other s.cells (cell_of cols h q) at (cell_at s.cells (cell_of cols h q) +ℤ signed h q (pos w)) (pos 0) (λ e. omega (arith, e, l))

-- and a store there leaves their estimates
ahead-kept : (cols h w : ℕ) (xs : List ℤ) (at : ℕ) (v : ℤ) (k q : ℕ) → at < q * cols → estimates_ahead cols h w (set xs at v) k q ≡ estimates_ahead cols h w xs k q
unfolding estimates_ahead
ahead-kept cols h w xs at v zero q l = refl
ahead-kept cols h w xs at v (suc k) q l =
    ap₂ (λ (x : ℤ) (es : List ℤ). signed h q (x +ℤ signed h q (pos w)) ∷ es) (get_or-set_other xs at (cell_of cols h q) v (pos 0) (λ e. omega (arith, e, l)))
    (ahead-kept cols h w xs at v k (suc q) (omega (arith, l, suc-mul q cols)))

-- the estimates of the sketch after an update
pub ahead_is : (cols h w : ℕ) (k r : ℕ) (s : Sketch) → 1 ≤ cols → (r + k) * cols ≤ length s.cells → estimates_ahead cols h w s.cells k r ≡ estimates cols h (add_rows cols h w k r s).cells k r
unfolding estimates_ahead estimates add_rows add_cell
ahead_is cols h w zero r s p l = refl
ahead_is cols h w (suc k) r s p l =
    let at = cell_of cols h r in
    let x = cell_at s.cells at +ℤ signed h r (pos w) in
    let t = add_row cols h w r s in
    let before : at < suc r * cols = cell-before cols h r (suc r) p (omega arith) in
    let n : at < length s.cells = cell-lt (r + suc k) cols h r (length s.cells) p (omega arith) l in
    let z : suc r + k ≡ r + suc k = omega arith in
    let here : cell_at (add_rows cols h w k (suc r) t).cells at ≡ x = before-kept cols h w k (suc r) at t before ∙ get_or-set_same s.cells at x (pos 0) n in
    ap₂ (λ (y : ℤ) (es : List ℤ). signed h r y ∷ es) (sym here)
    (sym (ahead-kept cols h w s.cells at x k (suc r) before) ∙ ahead_is cols h w k (suc r) t p (rw (z, length-set s.cells at x) l))

-- ---- of an update that may be made

-- the same for all rows from the first on
ahead-all : {rows cols h w : ℕ} {xs : List ℤ} (ns : List ℕ) → Countable rows cols h w xs → estimates_ahead cols h w xs rows 0 ≡ estimates cols h (add_rows cols h w rows 0 (record { cells = xs; norms = ns })).cells rows 0
ahead-all {rows} {cols} {h} {w} {xs} ns d = ahead_is cols h w rows 0 (record { cells = xs; norms = ns }) d.shaped.some (rw (zero-add rows) d.room)

-- they are in range
pub ahead_in : {rows cols h w : ℕ} {xs : List ℤ} → Countable rows cols h w xs → all_in (estimates_ahead cols h w xs rows 0) ≡ true
ahead_in {rows} {cols} {h} {w} {xs} d =
    let s : Sketch = record { cells = xs; norms = [] } in
    counted_in rows cols h (add_rows cols h w rows 0 s).cells (estimates_ahead cols h w xs rows 0) (ahead-all [] d) (fit-after cols h w rows 0 s d.shaped.some (rw (zero-add rows) d.room) d.fit)

-- and their median is the count after it
pub ahead-count : {rows cols h w : ℕ} {xs : List ℤ} (ns : List ℕ) → Countable rows cols h w xs
    → middle (sort_z (estimates_ahead cols h w xs rows 0)) ≡ estimate_of rows cols h (add_rows cols h w rows 0 (record { cells = xs; norms = ns })).cells
ahead-count {rows} {cols} {h} {w} {xs} ns d = counted rows cols h (add_rows cols h w rows 0 (record { cells = xs; norms = ns })).cells (estimates_ahead cols h w xs rows 0) (ahead-all ns d)
