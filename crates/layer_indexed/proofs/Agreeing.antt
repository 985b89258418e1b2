-- A layer whose index passes the check: with the index and without it an update, a delta and a merge leave the same layer and answer, and the new index passes again.
use mathlib.Core.Path.{◌≡◌, refl, sym, ap, ◌∙◌, subst}
use mathlib.Core.Bool.{Bool, true, false, ◌&&◌}
use mathlib.Core.List.{List, [], ◌∷◌}
use Prim.Native.Nat.{ℕ, ◌≤◌, ◌<◌}
use native.Mathlib.Omega.{arith}
use lib.ListN.{length, replicate, length-replicate}
use lib.IntN.{ℤ}
use Rattle.words.specs.Num.{in_range, all_in}
use Rattle.words.specs.Lists.{All}
use Rattle.countsketch_l2_norm.specs.Sketch.{rows_read, cell_read}
use Rattle.countsketch_l2_norm.specs.Estimate.{cells_in_range}
use Rattle.countsketch_l2_norm.specs.Merge.{merge_sketch}
use Rattle.countsketch_l2_norm.proofs.Bounds.{count_in}
use Rattle.heap_moves.specs.declared.Item.{Item}
use Rattle.heap_moves.specs.Cands.{Cand, no_cand, most_cands}
use Rattle.heap_moves.specs.Flat.{cand_of}
use Rattle.heap.specs.Offer.{Table, kept_by}
use Rattle.heap.proofs.Entries.{counts-read}
use Rattle.heap_index.specs.Index.{index_length}
use Rattle.heap_index.specs.inner.Indexes.{IndexesIn}
use Rattle.heap_index.proofs.Builds.{empty_holds}
use Rattle.heap_index.proofs.Checks.{holds_check}
use Rattle.heap_index.proofs.Scanned.{index-room}
use Rattle.heap_indexed.proofs.Runs.{Passes, one-fine, one_answer, one_table, one_passes, one-length, passes_looked}
use Rattle.layer.specs.declared.Dims.{Dims}
use Rattle.layer.specs.Layer.{Layer, LayerUpdate, hash_by, count_of, add_sketch, add_layer, add_answer, add_reads, add_fits, counts_read, no_table}
use Rattle.layer.specs.Delta.{Delta, place_by, delta_sketch, delta_layer, delta_answer, delta_reads, delta_fits}
use Rattle.layer.specs.Merge.{both_items, offer_all, merge_layer}
use Rattle.layer_indexed.specs.Adding.{offer_to_in, key_looked, add_layer_in, add_index_in, add_answer_in, add_reads_in, add_moves_in, delta_layer_in, delta_index_in, delta_answer_in, delta_reads_in, delta_moves_in}
use Rattle.layer_indexed.specs.Merging.{offer_all_in, merge_index_in}
use Rattle.layer_indexed.specs.inner.Needs.{grade_by, add_grade, delta_grade}
use Rattle.layer_indexed.proofs.Grading.{not-refused}

-- every key's lookup ends
pub key_agrees : (size : ℕ) (xs : List ℕ) (t : Table) → Passes size xs t → (k : ℕ) → key_looked xs t k ≡ true
key_agrees size xs t p k = not-refused _ (passes_looked size xs t p k)

-- and every candidate is read
table-read : (size : ℕ) (xs : List ℕ) (t : Table) → Passes size xs t → counts_read t ≡ true
table-read size xs t p = counts-read t.len t.cands (omega (arith, p.long, p.used)) p.ranged

-- where the moves are fine if the counters fit, the grade is that of the tests without an index
grade_agrees : (reads reads' fits moves : Bool) → reads ≡ reads' → (fits ≡ true → moves ≡ true) → grade_by reads fits moves ≡ grade_by reads' fits true
grade_agrees r r' true m e h = rw (e, h refl)
grade_agrees r r' false m e h = rw e

-- ---- an update

pub add_reads_agree : (d : Dims) (u : LayerUpdate) (xs : List ℕ) (y : Layer) → Passes d.size xs y.table → add_reads_in d u xs y ≡ add_reads d u y
unfolding add_reads_in add_reads
add_reads_agree d u xs y p =
    ap (λ (b : Bool). rows_read d.cols (hash_by u.item) y.sketch d.rows 0 && b) (key_agrees d.size xs y.table p u.item.key ∙ sym (table-read d.size xs y.table p))

module _ (d : Dims) (u : LayerUpdate) (xs : List ℕ) (y : Layer) (p : Passes d.size xs y.table) (within : in_range (count_of d u.item (add_sketch d u y.sketch).cells) ≡ true) where
  abbrev cand : Cand
  cand = cand_of u.item (count_of d u.item (add_sketch d u y.sketch).cells)

  pub add_layer_agrees : add_layer_in d u xs y ≡ add_layer d u y
  unfolding add_layer_in add_layer
  add_layer_agrees =
      λ i. record { sketch = add_sketch d u y.sketch; table = one_table d.size xs y.table cand p within i; flag = y.flag && kept_by (one_answer d.size xs y.table cand p within i) }

  pub add_answer_agrees : add_answer_in d u xs y ≡ add_answer d u y
  unfolding add_answer_in add_answer
  add_answer_agrees = one_answer d.size xs y.table cand p within

  pub add-moves_agree : add_moves_in d u xs y ≡ true
  unfolding add_moves_in
  add-moves_agree = one-fine d.size xs y.table cand p within

  pub add_passes : Passes d.size (add_index_in d u xs y) (add_layer d u y).table
  unfolding add_index_in add_layer
  add_passes = one_passes d.size xs y.table cand p within

  pub add-index_length : length (add_index_in d u xs y) ≡ length xs
  unfolding add_index_in
  add-index_length = one-length d.size xs y.table cand p within

pub add_grade_agrees : (d : Dims) (u : LayerUpdate) (xs : List ℕ) (y : Layer) → Passes d.size xs y.table
    → (add_fits d u y ≡ true → in_range (count_of d u.item (add_sketch d u y.sketch).cells) ≡ true) → add_grade d u xs y ≡ grade_by (add_reads d u y) (add_fits d u y) true
unfolding add_grade
add_grade_agrees d u xs y p f = grade_agrees (add_reads_in d u xs y) (add_reads d u y) (add_fits d u y) (add_moves_in d u xs y) (add_reads_agree d u xs y p) (λ e. add-moves_agree d u xs y p (f e))

-- ---- a delta

pub delta_reads_agree : (d : Dims) (u : Delta) (xs : List ℕ) (y : Layer) → Passes d.size xs y.table → delta_reads_in d u xs y ≡ delta_reads d u y
unfolding delta_reads_in delta_reads
delta_reads_agree d u xs y p =
    ap (λ (b : Bool). cell_read d.cols (place_by d u) u.row y.sketch && cells_in_range d.cols (hash_by u.item) y.sketch.cells d.rows 0 && b)
    (key_agrees d.size xs y.table p u.item.key ∙ sym (table-read d.size xs y.table p))

module _ (d : Dims) (u : Delta) (xs : List ℕ) (y : Layer) (p : Passes d.size xs y.table) (within : in_range (count_of d u.item (delta_sketch d u y.sketch).cells) ≡ true) where
  abbrev told : Cand
  told = cand_of u.item (count_of d u.item (delta_sketch d u y.sketch).cells)

  pub delta_layer_agrees : delta_layer_in d u xs y ≡ delta_layer d u y
  unfolding delta_layer_in delta_layer
  delta_layer_agrees =
      λ i. record { sketch = delta_sketch d u y.sketch; table = one_table d.size xs y.table told p within i; flag = y.flag && (kept_by (one_answer d.size xs y.table told p within i) && u.every) }

  pub delta_answer_agrees : delta_answer_in d u xs y ≡ delta_answer d u y
  unfolding delta_answer_in delta_answer
  delta_answer_agrees = one_answer d.size xs y.table told p within

  pub delta-moves_agree : delta_moves_in d u xs y ≡ true
  unfolding delta_moves_in
  delta-moves_agree = one-fine d.size xs y.table told p within

  pub delta_passes : Passes d.size (delta_index_in d u xs y) (delta_layer d u y).table
  unfolding delta_index_in delta_layer
  delta_passes = one_passes d.size xs y.table told p within

  pub delta-index_length : length (delta_index_in d u xs y) ≡ length xs
  unfolding delta_index_in
  delta-index_length = one-length d.size xs y.table told p within

pub delta_grade_agrees : (d : Dims) (u : Delta) (xs : List ℕ) (y : Layer) → Passes d.size xs y.table
    → (delta_fits d u y ≡ true → in_range (count_of d u.item (delta_sketch d u y.sketch).cells) ≡ true) → delta_grade d u xs y ≡ grade_by (delta_reads d u y) (delta_fits d u y) true
unfolding delta_grade
delta_grade_agrees d u xs y p f =
    grade_agrees (delta_reads_in d u xs y) (delta_reads d u y) (delta_fits d u y) (delta_moves_in d u xs y) (delta_reads_agree d u xs y p) (λ e. delta-moves_agree d u xs y p (f e))

-- ---- a merge

-- no candidates, and an index of empty places
pub none_passes : (size : ℕ) → 0 < size → size ≤ most_cands → Passes size (replicate (index_length size) 0) (no_table size)
none_passes size z h =
    let long : length {A = ℕ} (replicate (index_length size) 0) ≡ index_length size = length-replicate (index_length size) 0 in
    record {
      index =
          holds_check (replicate (index_length size) 0) 0 (replicate size no_cand)
          (subst (λ (m : ℕ). IndexesIn m (replicate (index_length size) 0) 0 (replicate size no_cand) 0) (sym long) (empty_holds (index_length size) (replicate size no_cand)))
          (λ j l. absurd (omega (arith, l)));
      ranged = λ j l. absurd (omega (arith, l));
      long = length-replicate size no_cand;
      used = omega arith;
      some = z;
      room = subst (λ (m : ℕ). size < m) (sym long) (index-room size z h);
    }

-- keys offered in turn
pub offers_pass : (d : Dims) (cells : List ℤ) (ws : List Item) (xs : List ℕ) (t : Table) → Passes d.size xs t → All (λ (w : Item). in_range (count_of d w cells) ≡ true) ws
    → Passes d.size (offer_all_in d cells ws xs t) (offer_all d cells ws t)
unfolding offer_all_in offer_all
offers_pass d cells [] xs t p a = p
offers_pass d cells (w ∷ ws) xs t p a =
    let c = cand_of w (count_of d w cells) in
    subst (λ (n : Table). Passes d.size (offer_all_in d cells ws (offer_to_in d w cells xs t).after.index n) (offer_all d cells (w ∷ ws) t)) (sym (one_table d.size xs t c p a.0))
    (offers_pass d cells ws (offer_to_in d w cells xs t).after.index _ (one_passes d.size xs t c p a.0) a.1)

-- counts from counters that are in range
pub counts-within : (d : Dims) (cells : List ℤ) (ws : List Item) → all_in cells ≡ true → All (λ (w : Item). in_range (count_of d w cells) ≡ true) ws
counts-within d cells [] e = tt
counts-within d cells (w ∷ ws) e = (count_in d.rows d.cols (hash_by w) cells e, counts-within d cells ws e)

-- a merge whose sums are in range leaves an index that passes
pub merge_passes : (d : Dims) (a b : Layer) → 0 < d.size → d.size ≤ most_cands
    → all_in (merge_sketch d.rows d.cols a.sketch b.sketch).cells ≡ true → Passes d.size (merge_index_in d a b) (merge_layer d a b).table
unfolding merge_index_in merge_layer
merge_passes d a b z h e =
    let cells = (merge_sketch d.rows d.cols a.sketch b.sketch).cells in
    offers_pass d cells (both_items a.table b.table) _ _ (none_passes d.size z h) (counts-within d cells (both_items a.table b.table) e)
