-- The index that a merge of two layers leaves, and its length. Assumes nothing.
use mathlib.Core.Path.{◌≡◌, refl, sym, ap, ap₂, ◌∙◌, subst}
use mathlib.Core.Bool.{Bool, true}
use mathlib.Core.List.{List, [], ◌∷◌, ◌++◌}
use Prim.Native.Nat.{ℕ, ◌≤◌, ◌<◌}
use lib.ListN.{length, replicate, length-replicate}
use lib.IntN.{ℤ}
use Rattle.words.specs.Num.{in_range}
use Rattle.words.specs.Lists.{All}
use Rattle.countsketch_l2_norm.specs.Sketch.{Sketch}
use Rattle.countsketch_l2_norm.specs.inner.Needs.{sketch_of}
use Rattle.countsketch_l2_norm.specs.Merge.{sums, merge_sketch}
use Rattle.heap_moves.specs.declared.Item.{Item}
use Rattle.heap_moves.specs.Cands.{most_cands}
use Rattle.heap_moves.specs.Flat.{cand_of}
use Rattle.heap.specs.Offer.{Table}
use Rattle.heap_index.specs.Index.{index_length}
use Rattle.heap_indexed.proofs.Runs.{Passes, one_table, one_passes, one-length}
use Rattle.layer.specs.declared.Dims.{Dims}
use Rattle.layer.specs.Layer.{Layer, count_of, no_table}
use Rattle.layer.specs.Merge.{firsts, both_items, merge_fits}
use Rattle.layer.specs.inner.Needs.{layer_of}
use Rattle.layer.specs.inner.Gather.{items_of}
use Rattle.layer.proofs.Firsts.{items-table}
use Rattle.layer_indexed.specs.Adding.{offer_to_in}
use Rattle.layer_indexed.specs.Merging.{offer_all_in, merge_index_in}
use Rattle.layer_indexed.proofs.Agreeing.{none_passes, counts-within}

pub index_is : (d : Dims) (xs : List ℤ) (ws es : List ℕ) (ns : List ℤ) (len : ℕ) (xs₂ : List ℤ) (es₂ : List ℕ) (len₂ : ℕ) (xs' : List ℤ) (ws' is : List ℕ)
    → sketch_of xs' ws' d.rows ≡ merge_sketch d.rows d.cols (sketch_of xs ws d.rows) (sketch_of xs₂ [] d.rows)
    → is ≡ offer_all_in d xs' (firsts [] (items_of es len ++ items_of es₂ len₂)) (replicate (index_length d.size) 0) (no_table d.size) → len ≤ length ns
    → (ws₂ : List ℕ) (ns₂ : List ℤ) (flag flag₂ : Bool) → len₂ ≤ length ns₂ → is ≡ merge_index_in d (layer_of d xs ws es ns len flag) (layer_of d xs₂ ws₂ es₂ ns₂ len₂ flag₂)
unfolding merge_index_in
index_is d xs ws es ns len xs₂ es₂ len₂ xs' ws' is sketch index l ws₂ ns₂ flag flag₂ l₂ =
    index
    ∙ ap₂ (λ (cells : List ℤ) (z : List Item). offer_all_in d cells (firsts [] z) (replicate (index_length d.size) 0) (no_table d.size)) (ap (λ (s : Sketch). s.cells) sketch)
    (ap₂ (λ (a b : List Item). a ++ b) (sym (items-table es ns len l)) (sym (items-table es₂ ns₂ len₂ l₂)))

-- ---- as many places as before

offers_long : (d : Dims) (cells : List ℤ) (ws : List Item) (xs : List ℕ) (t : Table) → Passes d.size xs t → All (λ (w : Item). in_range (count_of d w cells) ≡ true) ws
    → length (offer_all_in d cells ws xs t) ≡ length xs
unfolding offer_all_in
offers_long d cells [] xs t p a = refl
offers_long d cells (w ∷ ws) xs t p a =
    let c = cand_of w (count_of d w cells) in
    let ys = (offer_to_in d w cells xs t).after.index in
    subst (λ (n : Table). length (offer_all_in d cells ws ys n) ≡ length xs) (sym (one_table d.size xs t c p a.0))
    (offers_long d cells ws ys _ (one_passes d.size xs t c p a.0) a.1 ∙ one-length d.size xs t c p a.0)

pub merge-index-long : (d : Dims) (a b : Layer) → 0 < d.size → d.size ≤ most_cands → merge_fits a b ≡ true → length (merge_index_in d a b) ≡ index_length d.size
unfolding merge_index_in merge_fits
merge-index-long d a b z h e =
    let cells = sums a.sketch.cells b.sketch.cells in
    offers_long d cells (both_items a.table b.table) (replicate (index_length d.size) 0) (no_table d.size) (none_passes d.size z h) (counts-within d cells (both_items a.table b.table) e)
    ∙ length-replicate (index_length d.size) 0
