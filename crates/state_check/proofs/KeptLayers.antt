-- A whole layer stays whole: an update and a delta that fit, and a merge of two whose sums fit. Assumes nothing.
use mathlib.Core.Path.{◌≡◌, refl, sym, ◌∙◌}
use mathlib.Core.Bool.{true}
use Prim.Native.Nat.{ℕ, zero, suc, ◌≤◌, ◌<◌}
use native.Mathlib.Omega.{arith}
use mathlib.Core.List.{List, [], ◌∷◌}
use lib.ListN.{set, length-replicate}
use lib.IntN.{ℤ, pos, ◌+ℤ◌}
use Rattle.words.specs.Num.{in_range, all_in}
use Rattle.words.proofs.Bools.{and_left, and_right, both}
use Rattle.words.proofs.Lists.{get_d_all}
use Rattle.matrix_storage.specs.Bits.{signed}
use Rattle.countsketch_l2_norm.specs.Sketch.{Sketch, cell_of, cell_at, add_cell, add_row, add_rows, rows_fit}
use Rattle.countsketch_l2_norm.specs.Merge.{sums}
use Rattle.countsketch_l2_norm.proofs.Kept.{kept-cell, kept-rows}
use Rattle.countsketch_l2_norm.proofs.Merges.{length-sums, length-row_norms}
use Rattle.countsketch_l2_norm.proofs.Places.{cell-before}
use Rattle.countsketch_l2_norm.proofs.Rows.{fit_later}
use Rattle.countsketch_l2_norm.proofs.After.{length-cell, length-cell-norms, length-rows, length-rows-norms}
use Rattle.countsketch_l2_norm.proofs.Bounds.{count_in}
use Rattle.heap_moves.specs.declared.Item.{Item}
use Rattle.heap_moves.specs.Cands.{no_cand}
use Rattle.heap_moves.specs.Flat.{cand_of}
use Rattle.heap_moves.specs.inner.Totals.{Each}
use Rattle.heap.specs.Offer.{Table}
use Rattle.heap.specs.inner.Sound.{Sound}
use Rattle.heap.proofs.Sounds.{offer-sound, offer-long}
use Rattle.heap.proofs.Entries.{InR, offer-each}
use Rattle.layer.specs.declared.Dims.{Dims}
use Rattle.layer.specs.Layer.{Layer, LayerUpdate, hash_by, count_of, offer_to, add_sketch, add_layer, add_fits, no_table}
use Rattle.layer.specs.Delta.{Delta, place_by, delta_layer, delta_fits}
use Rattle.layer.specs.Merge.{both_items, offer_all, merge_layer, merge_fits}
use Rattle.state_check.proofs.Whole.{Whole}

-- ---- counters

all_set : (xs : List ℤ) (i : ℕ) (v : ℤ) → in_range v ≡ true → all_in xs ≡ true → all_in (set xs i v) ≡ true
unfolding all_in
all_set [] i v h e = refl
all_set (x ∷ xs) zero v h e = both h (and_right (in_range x) (all_in xs) e)
all_set (x ∷ xs) (suc i) v h e = both (and_left (in_range x) (all_in xs) e) (all_set xs i v h (and_right (in_range x) (all_in xs) e))

-- an update that fits leaves every counter in range
rows_in : (cols h w k r : ℕ) (s : Sketch) → 1 ≤ cols → rows_fit cols h w s.cells k r ≡ true → all_in s.cells ≡ true → all_in (add_rows cols h w k r s).cells ≡ true
unfolding add_rows add_cell rows_fit
rows_in cols h w zero r s p f e = e
rows_in cols h w (suc k) r s p f e =
    let x = cell_at s.cells (cell_of cols h r) +ℤ signed h r (pos w) in
    rows_in cols h w k (suc r) (add_row cols h w r s) p
    (fit_later cols h w (cell_of cols h r) s.cells x k (suc r) (cell-before cols h r (suc r) p (omega arith)) ∙ and_right (in_range x) (rows_fit cols h w s.cells k (suc r)) f)
    (all_set s.cells (cell_of cols h r) x (and_left (in_range x) (rows_fit cols h w s.cells k (suc r)) f) e)

-- ---- candidates

-- keys offered with counts from counters that are in range: the heap stays sound and its counts in range
module _ (d : Dims) (cells : List ℤ) (some : 0 < d.size) (ranged : all_in cells ≡ true) where
  good : (w : Item) → in_range (count_of d w cells) ≡ true
  good w = count_in d.rows d.cols (hash_by w) cells ranged

  one-sound : (w : Item) (t : Table) → Sound d.size t → Sound d.size (offer_to d w cells t).table
  one-sound w t s = offer-sound d.size t (cand_of w (count_of d w cells)) some s

  one-counts : (w : Item) (t : Table) → Sound d.size t → Each InR t.len t.cands → Each InR (offer_to d w cells t).table.len (offer_to d w cells t).table.cands
  one-counts w t s c = offer-each d.size t (cand_of w (count_of d w cells)) some s.long s.used InR (good w) (λ x h. good w) c

  all_sound : (ws : List Item) (t : Table) → Sound d.size t → Sound d.size (offer_all d cells ws t)
  unfolding offer_all
  all_sound [] t s = s
  all_sound (w ∷ ws) t s = all_sound ws (offer_to d w cells t).table (one-sound w t s)

  all-counts : (ws : List Item) (t : Table) → Sound d.size t → Each InR t.len t.cands → Each InR (offer_all d cells ws t).len (offer_all d cells ws t).cands
  unfolding offer_all
  all-counts [] t s c = c
  all-counts (w ∷ ws) t s c = all-counts ws (offer_to d w cells t).table (one-sound w t s) (one-counts w t s c)

pub none-sound : (size : ℕ) → Sound size (no_table size)
none-sound size = record { long = length-replicate size no_cand; used = omega arith; ordered = λ i h. absurd (omega arith); rest = λ i h. get_d_all no_cand size i }

-- ---- the three steps

pub add-whole : (d : Dims) (u : LayerUpdate) (y : Layer) → 1 ≤ d.cols → 0 < d.size → Whole d y → add_fits d u y ≡ true → Whole d (add_layer d u y)
unfolding add_layer add_sketch add_fits
add-whole d u y p some w f =
    let h = hash_by u.item in
    let s : Sketch = add_rows d.cols h u.weight d.rows 0 y.sketch in
    let a : all_in s.cells ≡ true = rows_in d.cols h u.weight d.rows 0 y.sketch p f w.cells in
    record {
      fits = record {
        cells = length-rows d.cols h u.weight d.rows 0 y.sketch ∙ w.fits.cells;
        norms = length-rows-norms d.cols h u.weight d.rows 0 y.sketch ∙ w.fits.norms;
        cands = offer-long d.size y.table (cand_of u.item (count_of d u.item s.cells)) ∙ w.fits.cands;
      };
      cells = a;
      norms = kept-rows d.rows d.cols h u.weight d.rows 0 y.sketch p (omega arith) (omega (arith, w.fits.cells)) w.norms;
      table = one-sound d s.cells some a u.item y.table w.table;
      counts = one-counts d s.cells some a u.item y.table w.table w.counts;
    }

pub delta-whole : (d : Dims) (u : Delta) (y : Layer) → u.row < d.rows → u.col < d.cols → 0 < d.size → Whole d y → delta_fits d u y ≡ true → Whole d (delta_layer d u y)
unfolding delta_layer delta_fits add_cell
delta-whole d u y hr hc some w f =
    let at = place_by d u in
    let s : Sketch = add_cell at u.row u.count y.sketch in
    let a : all_in s.cells ≡ true = all_set y.sketch.cells at (cell_at y.sketch.cells at +ℤ u.count) f w.cells in
    record {
      fits = record {
        cells = length-cell at u.row u.count y.sketch ∙ w.fits.cells;
        norms = length-cell-norms at u.row u.count y.sketch ∙ w.fits.norms;
        cands = offer-long d.size y.table (cand_of u.item (count_of d u.item s.cells)) ∙ w.fits.cands;
      };
      cells = a;
      norms = kept-cell d.rows d.cols u.row u.col u.count y.sketch hr hc (omega (arith, w.fits.cells)) w.norms;
      table = one-sound d s.cells some a u.item y.table w.table;
      counts = one-counts d s.cells some a u.item y.table w.table w.counts;
    }

pub merge-whole : (d : Dims) (a b : Layer) → 0 < d.size → Whole d a → Whole d b → merge_fits a b ≡ true → Whole d (merge_layer d a b)
unfolding merge_layer merge_fits
merge-whole d a b some v w f =
    let cells : List ℤ = sums a.sketch.cells b.sketch.cells in
    let ws : List Item = both_items a.table b.table in
    let t : Sound d.size (offer_all d cells ws (no_table d.size)) = all_sound d cells some f ws (no_table d.size) (none-sound d.size) in
    record {
      fits = record {
        cells = length-sums a.sketch.cells b.sketch.cells (v.fits.cells ∙ sym w.fits.cells) ∙ v.fits.cells;
        norms = length-row_norms d.cols cells d.rows 0;
        cands = t.long;
      };
      cells = f;
      norms = refl;
      table = t;
      counts = all-counts d cells some f ws (no_table d.size) (none-sound d.size) (λ i h. absurd (omega arith));
    }
