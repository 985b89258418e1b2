-- A merge of two layers: its tests by the slices that they read, and what the stores and the offers leave. Assumes nothing.
use mathlib.Core.Path.{◌≡◌, refl, sym, ap, ap₂, ◌∙◌}
use mathlib.Core.Bool.{Bool, ◌&&◌}
use mathlib.Core.List.{List, [], ◌∷◌, ◌++◌}
use Prim.Native.Nat.{ℕ, ◌*◌, ◌≤◌}
use native.Mathlib.Omega.{arith}
use lib.ListN.{length, take, length-replicate}
use lib.IntN.{ℤ}
use lib.Dec.{leb}
use Rattle.words.specs.Num.{all_in}
use Rattle.countsketch_l2_norm.specs.Sketch.{Sketch}
use Rattle.countsketch_l2_norm.specs.inner.Needs.{sketch_of}
use Rattle.countsketch_l2_norm.specs.Merge.{sums, merge_sketch}
use Rattle.countsketch_l2_norm.proofs.Merges.{length-sums, length-row_norms}
use Rattle.heap_moves.specs.declared.Item.{Item}
use Rattle.heap_moves.specs.Cands.{no_cand}
use Rattle.heap_moves.proofs.Rounds.{counts-cands}
use Rattle.heap.specs.Offer.{Table}
use Rattle.heap.specs.Places.{places}
use Rattle.heap.specs.inner.Slices.{table_of}
use Rattle.heap.proofs.Sounds.{offer-long}
use Rattle.layer.specs.declared.Dims.{Dims}
use Rattle.layer.specs.declared.Merged.{Merged}
use Rattle.layer.specs.Layer.{Layer, offer_to, no_table}
use Rattle.layer.specs.inner.Needs.{layer_of, Fits}
use Rattle.layer.specs.Merge.{items, both_items, offer_all, merge_layer, merge_answer, merge_reads, merge_fits}
use Rattle.layer.specs.inner.Gather.{Gathered, gathered_of, merge_table, items_of}
use Rattle.layer.proofs.Steps.{offer-few}
use Rattle.layer.proofs.Firsts.{items-table}

-- ---- the tests

pub merge_reads_are : (d : Dims) (xs : List ℤ) (ws es : List ℕ) (ns : List ℤ) (len : ℕ) (flag : Bool) (xs₂ : List ℤ) (ws₂ es₂ : List ℕ) (ns₂ : List ℤ) (len₂ : ℕ) (flag₂ : Bool)
    → merge_reads (layer_of d xs ws es ns len flag) (layer_of d xs₂ ws₂ es₂ ns₂ len₂ flag₂) ≡ all_in xs && all_in (take len ns) && all_in xs₂ && all_in (take len₂ ns₂)
unfolding merge_reads
merge_reads_are d xs ws es ns len flag xs₂ ws₂ es₂ ns₂ len₂ flag₂ =
    ap₂ (λ (l m : List ℤ). all_in xs && all_in (take len l) && all_in xs₂ && all_in (take len₂ m)) (counts-cands es ns) (counts-cands es₂ ns₂)

pub merge_fits_are : (d : Dims) (xs : List ℤ) (ws es : List ℕ) (ns : List ℤ) (len : ℕ) (flag : Bool) (xs₂ : List ℤ) (ws₂ es₂ : List ℕ) (ns₂ : List ℤ) (len₂ : ℕ) (flag₂ : Bool)
    → merge_fits (layer_of d xs ws es ns len flag) (layer_of d xs₂ ws₂ es₂ ns₂ len₂ flag₂) ≡ all_in (sums xs xs₂)
unfolding merge_fits
merge_fits_are d xs ws es ns len flag xs₂ ws₂ es₂ ns₂ len₂ flag₂ = refl

-- ---- the merge

pub merge_is : (d : Dims) (xs : List ℤ) (ws es : List ℕ) (ns : List ℤ) (len : ℕ) (xs₂ : List ℤ) (es₂ : List ℕ) (len₂ : ℕ) (xs' : List ℤ) (ws' es' : List ℕ) (ns' : List ℤ) (list : List ℕ) (r : Merged)
    → sketch_of xs' ws' d.rows ≡ merge_sketch d.rows d.cols (sketch_of xs ws d.rows) (sketch_of xs₂ [] d.rows)
    → gathered_of es' ns' list r ≡ merge_table d xs' (items_of es len ++ items_of es₂ len₂) → len ≤ length ns
    → ((ws₂ : List ℕ) (ns₂ : List ℤ) (flag flag₂ : Bool) → len₂ ≤ length ns₂
    → layer_of d xs' ws' es' ns' r.len (flag && flag₂ && leb r.keys d.size) ≡ merge_layer d (layer_of d xs ws es ns len flag) (layer_of d xs₂ ws₂ es₂ ns₂ len₂ flag₂))
    × ((ws₂ : List ℕ) (ns₂ : List ℤ) (flag flag₂ : Bool) → len₂ ≤ length ns₂
    → list ≡ places (2 * d.size) (merge_answer d (layer_of d xs ws es ns len flag) (layer_of d xs₂ ws₂ es₂ ns₂ len₂ flag₂)))
unfolding merge_layer merge_answer merge_table
merge_is d xs ws es ns len xs₂ es₂ len₂ xs' ws' es' ns' list r sketch table l =
    let cells : xs' ≡ sums xs xs₂ = ap (λ (s : Sketch). s.cells) sketch in
    let g : (ns₂ : List ℤ) → len₂ ≤ length ns₂ → gathered_of es' ns' list r ≡ merge_table d (sums xs xs₂) (items (table_of es ns len) ++ items (table_of es₂ ns₂ len₂)) =
    λ ns₂ l₂. table ∙ ap₂ (merge_table d) cells (ap₂ (λ (a b : List Item). a ++ b) (sym (items-table es ns len l)) (sym (items-table es₂ ns₂ len₂ l₂))) in (
      λ ws₂ ns₂ flag flag₂ l₂ i. record { sketch = sketch i; table = (g ns₂ l₂ i).table; flag = flag && flag₂ && leb (g ns₂ l₂ i).keys d.size },
      λ ws₂ ns₂ flag flag₂ l₂. ap (λ (x : Gathered). x.list) (g ns₂ l₂),
    )

-- ---- no more candidates than seats; a layer keeps its lengths

offers_few : (d : Dims) (cells : List ℤ) (ws : List Item) (t : Table) → t.len ≤ d.size → (offer_all d cells ws t).len ≤ d.size
unfolding offer_all
offers_few d cells [] t h = h
offers_few d cells (w ∷ ws) t h = offers_few d cells ws (offer_to d w cells t).table (offer-few d.size t _ h)

pub merge-few : (d : Dims) (a b : Layer) → (merge_layer d a b).table.len ≤ d.size
unfolding merge_layer
merge-few d a b = offers_few d (sums a.sketch.cells b.sketch.cells) (both_items a.table b.table) (no_table d.size) (omega arith)

offers_long : (d : Dims) (cells : List ℤ) (ws : List Item) (t : Table) → length (offer_all d cells ws t).cands ≡ length t.cands
unfolding offer_all
offers_long d cells [] t = refl
offers_long d cells (w ∷ ws) t = offers_long d cells ws (offer_to d w cells t).table ∙ offer-long d.size t _

pub merge-lengths : (d : Dims) (a b : Layer) → Fits d a → Fits d b → Fits d (merge_layer d a b)
unfolding merge_layer
merge-lengths d a b f g =
    record {
      cells = length-sums a.sketch.cells b.sketch.cells (f.cells ∙ sym g.cells) ∙ f.cells;
      norms = length-row_norms d.cols (sums a.sketch.cells b.sketch.cells) d.rows 0;
      cands = offers_long d (sums a.sketch.cells b.sketch.cells) (both_items a.table b.table) (no_table d.size) ∙ length-replicate d.size no_cand;
    }
