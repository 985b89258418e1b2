-- How far an update and a delta may come, by the slices that are judged. Assumes nothing.
use mathlib.Core.Path.{◌≡◌, refl, sym, ap, ap₂, ◌∙◌}
use mathlib.Core.Bool.{Bool, true, false, cond, not, ◌&&◌}
use mathlib.Core.List.{List}
use Prim.Native.Nat.{ℕ, ◌+◌, ◌*◌}
use native.Mathlib.Omega.{arith}
use lib.ListN.{length, set}
use lib.Seq.{set-set, set-get_or}
use lib.IntN.{ℤ, pos, ◌+ℤ◌}
use Rattle.std.proofs.Common.{Option, Some, None, is_some}
use Rattle.words.proofs.Bools.{never, and_left, and_right}
use Rattle.countsketch_l2_norm.specs.Sketch.{cell_at, cell_read, cell_fits, add_cell, add_rows, rows_read, rows_fit}
use Rattle.countsketch_l2_norm.specs.Estimate.{estimate_of, cells_in_range}
use Rattle.countsketch_l2_norm.specs.inner.Needs.{sketch_of, rows_ready}
use Rattle.heap_moves.specs.declared.Item.{Item}
use Rattle.heap_moves.specs.Cands.{Cand}
use Rattle.heap_moves.specs.Flat.{cand_of, cands_of}
use Rattle.heap_moves.proofs.Rounds.{entries-cands, counts-cands, entries_are, counts_are}
use Rattle.heap.specs.Offer.{Table}
use Rattle.heap.specs.inner.Slices.{table_of}
use Rattle.heap_index.specs.declared.Lookup.{Lookup}
use Rattle.heap_indexed.specs.Offers.{offer_in}
use Rattle.heap_indexed.proofs.Runs.{fine_looked}
use Rattle.layer.specs.declared.Dims.{Dims}
use Rattle.layer.specs.Layer.{hash_by, count_of, layer_update, add_sketch, add_fits}
use Rattle.layer.specs.Delta.{delta_fits}
use Rattle.layer.specs.inner.Needs.{layer_of, delta}
use Rattle.layer_indexed.specs.Adding.{key_looked, add_reads_in, add_moves_in, delta_reads_in, delta_moves_in}
use Rattle.layer_indexed.specs.inner.Needs.{grade_by, read_grade, add_grade, delta_grade}

-- ---- lookups

-- a lookup that is not refused ends at the key or at an empty place
pub not-refused : (l : Option Lookup) → (l ≡ None → ⊥) → is_some l ≡ true
not-refused (Some l) f = refl
not-refused None f = absurd (f refl)

-- the key of an offer that is not refused was looked up
pub offer_looked : (size : ℕ) (xs : List ℕ) (t : Table) (c : Cand) → (offer_in size xs t c).after.fine ≡ true → key_looked xs t c.item.key ≡ true
offer_looked size xs t c e = not-refused _ (fine_looked size xs t c e)

-- ---- what is tried and taken back

-- slices of the same candidates are the same
pub same-slices : (es : List ℕ) (ns : List ℤ) (es' : List ℕ) (ns' : List ℤ) → length es ≡ 4 * length ns → length es' ≡ 4 * length ns' → cands_of es' ns' ≡ cands_of es ns → (es' ≡ es) × (ns' ≡ ns)
same-slices es ns es' ns' h h' e = (entries_are es' ns' (cands_of es ns) h' e ∙ entries-cands es ns h, counts_are es' ns' (cands_of es ns) e ∙ counts-cands es ns)

-- a counter takes another number and then its own again
pub counter_back : (xs : List ℤ) (at : ℕ) (v x : ℤ) → x ≡ cell_at xs at → set (set xs at v) at x ≡ xs
counter_back xs at v x e = set-set xs at v x ∙ ap (set xs at) e ∙ set-get_or xs at (pos 0)

-- ---- a grade, by which tests hold

pub grade_four : (reads fits moves : Bool) → grade_by reads fits moves ≡ 4 → (reads ≡ true) × ((fits ≡ true) × (moves ≡ true))
grade_four true true true e = (refl, (refl, refl))
grade_four true true false e = absurd (omega (arith, e))
grade_four true false m e = absurd (omega (arith, e))
grade_four false f m e = absurd (omega (arith, e))

pub grade-one : (fits moves : Bool) (reads : Bool) → reads ≡ false → 1 ≡ grade_by reads fits moves
grade-one f m r e = rw e

pub grade-two : (moves : Bool) (reads fits : Bool) → reads ≡ true → fits ≡ false → 2 ≡ grade_by reads fits moves
grade-two m r f e g = rw (e, g)

pub grade_by-moves : (reads fits moves : Bool) → reads ≡ true → fits ≡ true → cond (not moves) 3 4 ≡ grade_by reads fits moves
grade_by-moves r f m e g = rw (e, g)

-- where the rows may not be stored, the moves do not matter
unready_by : (rows looked fits moves : Bool) → rows && fits ≡ false → cond (not (rows && looked)) 1 2 ≡ grade_by (rows && looked) fits moves
unready_by true true f m e = rw e
unready_by true false f m e = refl
unready_by false l f m e = refl

-- where they may, the lookup and the moves decide
ready_by : (rows looked fits moves : Bool) → rows && fits ≡ true → cond (not looked) 1 (cond (not moves) 3 4) ≡ grade_by (rows && looked) fits moves
ready_by true true f m e = rw e
ready_by true false f m e = refl
ready_by false l f m e = absurd (never e)

-- ---- an update

module _ (d : Dims) (item : Item) (w : ℕ) (xs : List ℤ) (ws es : List ℕ) (ns : List ℤ) (len : ℕ) (is : List ℕ) (flag : Bool) where
  pub unready-grade : rows_ready d.cols (hash_by item) w (sketch_of xs ws d.rows) d.rows 0 ≡ false
      → read_grade d (layer_update item w) is (layer_of d xs ws es ns len flag) ≡ add_grade d (layer_update item w) is (layer_of d xs ws es ns len flag)
  unfolding add_grade add_reads_in add_fits
  unready-grade e = unready_by (rows_read d.cols (hash_by item) (sketch_of xs ws d.rows) d.rows 0) (key_looked is (table_of es ns len) item.key) (add_fits d (layer_update item w) (layer_of d xs ws es ns len flag)) (add_moves_in d (layer_update item w) is (layer_of d xs ws es ns len flag)) e

  -- the count v is the one that the update leaves
  pub ready-grade : (v : ℤ) (looked moves : Bool) → rows_ready d.cols (hash_by item) w (sketch_of xs ws d.rows) d.rows 0 ≡ true
      → v ≡ estimate_of d.rows d.cols (hash_by item) (add_rows d.cols (hash_by item) w d.rows 0 (sketch_of xs ws d.rows)).cells
      → looked ≡ key_looked is (table_of es ns len) item.key → moves ≡ (offer_in d.size is (table_of es ns len) (cand_of item v)).after.fine
      → cond (not looked) 1 (cond (not moves) 3 4) ≡ add_grade d (layer_update item w) is (layer_of d xs ws es ns len flag)
  unfolding add_grade add_reads_in add_fits add_moves_in add_sketch
  ready-grade v looked moves e count p q =
      ap₂ (λ (a b : Bool). cond (not a) 1 (cond (not b) 3 4)) p (q ∙ ap (λ (n : ℤ). (offer_in d.size is (table_of es ns len) (cand_of item n)).after.fine) count)
      ∙ ready_by (rows_read d.cols (hash_by item) (sketch_of xs ws d.rows) d.rows 0) (key_looked is (table_of es ns len) item.key) (add_fits d (layer_update item w) (layer_of d xs ws es ns len flag)) (add_moves_in d (layer_update item w) is (layer_of d xs ws es ns len flag)) e

  -- the tests of the rows, where an update may be made
  pub add_tests : add_grade d (layer_update item w) is (layer_of d xs ws es ns len flag) ≡ 4
      → (rows_read d.cols (hash_by item) (sketch_of xs ws d.rows) d.rows 0 ≡ true) × (rows_fit d.cols (hash_by item) w xs d.rows 0 ≡ true)
  unfolding add_grade add_reads_in add_fits
  add_tests e =
      let g = grade_four (add_reads_in d (layer_update item w) is (layer_of d xs ws es ns len flag)) (add_fits d (layer_update item w) (layer_of d xs ws es ns len flag)) (add_moves_in d (layer_update item w) is (layer_of d xs ws es ns len flag)) e in
      (and_left (rows_read d.cols (hash_by item) (sketch_of xs ws d.rows) d.rows 0) (key_looked is (table_of es ns len) item.key) g.0, g.1.0)

-- ---- a delta

module _ (d : Dims) (row col : ℕ) (n : ℤ) (item : Item) (every : Bool) (xs : List ℤ) (ws es : List ℕ) (ns : List ℤ) (len : ℕ) (is : List ℕ) (flag : Bool) where
  -- what a delta reads of the counters is in range
  pub delta-tests : delta_reads_in d (delta row col n item every) is (layer_of d xs ws es ns len flag) ≡ true
      → (cell_read d.cols (row * d.cols + col) row (sketch_of xs ws d.rows) ≡ true) × (cells_in_range d.cols (hash_by item) xs d.rows 0 ≡ true)
  unfolding delta_reads_in
  delta-tests e =
      let a = cell_read d.cols (row * d.cols + col) row (sketch_of xs ws d.rows) in
      let b = cells_in_range d.cols (hash_by item) xs d.rows 0 in
      let l = and_left (a && b) (key_looked is (table_of es ns len) item.key) e in
      (and_left a b l, and_right a b l)

  pub delta-unread : false ≡ delta_reads_in d (delta row col n item every) is (layer_of d xs ws es ns len flag) → 1 ≡ delta_grade d (delta row col n item every) is (layer_of d xs ws es ns len flag)
  unfolding delta_grade
  delta-unread e = grade-one (delta_fits d (delta row col n item every) (layer_of d xs ws es ns len flag)) (delta_moves_in d (delta row col n item every) is (layer_of d xs ws es ns len flag)) (delta_reads_in d (delta row col n item every) is (layer_of d xs ws es ns len flag)) (sym e)

  pub delta_unfit : true ≡ delta_reads_in d (delta row col n item every) is (layer_of d xs ws es ns len flag) → false ≡ cell_fits (row * d.cols + col) n xs
      → 2 ≡ delta_grade d (delta row col n item every) is (layer_of d xs ws es ns len flag)
  unfolding delta_grade delta_fits
  delta_unfit e f = grade-two (delta_moves_in d (delta row col n item every) is (layer_of d xs ws es ns len flag)) (delta_reads_in d (delta row col n item every) is (layer_of d xs ws es ns len flag)) (delta_fits d (delta row col n item every) (layer_of d xs ws es ns len flag)) (sym e) (sym f)

  -- the count v is the one that the delta leaves
  pub delta_by-moves : (v : ℤ) (moves : Bool) → true ≡ delta_reads_in d (delta row col n item every) is (layer_of d xs ws es ns len flag) → true ≡ cell_fits (row * d.cols + col) n xs
      → v ≡ count_of d item (set xs (row * d.cols + col) (cell_at xs (row * d.cols + col) +ℤ n)) → moves ≡ (offer_in d.size is (table_of es ns len) (cand_of item v)).after.fine
      → cond (not moves) 3 4 ≡ delta_grade d (delta row col n item every) is (layer_of d xs ws es ns len flag)
  unfolding delta_grade delta_fits delta_moves_in add_cell
  delta_by-moves v moves e f count q =
      ap (λ (b : Bool). cond (not b) 3 4) (q ∙ ap (λ (z : ℤ). (offer_in d.size is (table_of es ns len) (cand_of item z)).after.fine) count)
      ∙ grade_by-moves (delta_reads_in d (delta row col n item every) is (layer_of d xs ws es ns len flag)) (delta_fits d (delta row col n item every) (layer_of d xs ws es ns len flag)) (delta_moves_in d (delta row col n item every) is (layer_of d xs ws es ns len flag)) (sym e) (sym f)

  -- the tests, where a delta may be made
  pub delta_may : delta_grade d (delta row col n item every) is (layer_of d xs ws es ns len flag) ≡ 4
      → (delta_reads_in d (delta row col n item every) is (layer_of d xs ws es ns len flag) ≡ true) × (cell_fits (row * d.cols + col) n xs ≡ true)
  unfolding delta_grade delta_fits
  delta_may e =
      let g = grade_four (delta_reads_in d (delta row col n item every) is (layer_of d xs ws es ns len flag)) (delta_fits d (delta row col n item every) (layer_of d xs ws es ns len flag)) (delta_moves_in d (delta row col n item every) is (layer_of d xs ws es ns len flag)) e in
      (g.0, g.1.0)
