-- What the stores and the offer leave of a layer with an index is the layer and the index of the definition. Assumes nothing.
use mathlib.Core.Path.{◌≡◌, sym, ap, ◌∙◌}
use mathlib.Core.Bool.{Bool, true, ◌&&◌}
use mathlib.Core.List.{List}
use Prim.Native.Nat.{ℕ, ◌+◌, ◌*◌}
use lib.IntN.{ℤ}
use Rattle.words.proofs.Bools.{and-true}
use Rattle.countsketch_l2_norm.specs.Sketch.{Sketch, add_cell, add_rows}
use Rattle.countsketch_l2_norm.specs.Estimate.{estimate_of}
use Rattle.countsketch_l2_norm.specs.inner.Needs.{sketch_of}
use Rattle.heap_moves.specs.declared.Item.{Item}
use Rattle.heap_moves.specs.Flat.{cand_of}
use Rattle.heap.specs.Offer.{len_by, kept_by}
use Rattle.heap.specs.inner.Slices.{table_of}
use Rattle.heap_indexed.specs.declared.TriedOffer.{TriedOffer}
use Rattle.heap_indexed.specs.Offers.{IndexedOffer, offer_in}
use Rattle.heap_indexed.specs.inner.Slices.{offered_with}
use Rattle.layer.specs.declared.Dims.{Dims}
use Rattle.layer.specs.Layer.{hash_by, count_of, layer_update, add_sketch}
use Rattle.layer.specs.inner.Needs.{layer_of, delta}
use Rattle.layer_indexed.specs.Adding.{offer_to_in, table_after, add_layer_in, add_index_in, add_answer_in, delta_layer_in, delta_index_in, delta_answer_in}

-- a sketch, and the offer of a key with its count from the new counters
module _ (d : Dims) (item : Item) (s : Sketch) (es : List ℕ) (ns : List ℤ) (len : ℕ) (is : List ℕ) (xs' : List ℤ) (ws' es' : List ℕ) (ns' : List ℤ) (is' : List ℕ) (r : TriedOffer) (v : ℤ)
    (sketch : sketch_of xs' ws' d.rows ≡ s) (count : v ≡ estimate_of d.rows d.cols (hash_by item) xs')
    (made : offered_with is' es' ns' r ≡ offer_in d.size is (table_of es ns len) (cand_of item v)) where
  -- the offer is the definition's
  same-offer : offered_with is' es' ns' r ≡ offer_to_in d item s.cells is (table_of es ns len)
  same-offer = made ∙ ap (λ (n : ℤ). offer_in d.size is (table_of es ns len) (cand_of item n)) (count ∙ ap (λ (t : Sketch). count_of d item t.cells) sketch)

  answered : r.answer ≡ (offer_to_in d item s.cells is (table_of es ns len)).answer
  answered = ap (λ (o : IndexedOffer). o.answer) same-offer

  indexed : is' ≡ (offer_to_in d item s.cells is (table_of es ns len)).after.index
  indexed = ap (λ (o : IndexedOffer). o.after.index) same-offer

  stepped : (flag every : Bool) → layer_of d xs' ws' es' ns' (len_by r.answer len) (flag && (kept_by r.answer && every))
      ≡ record {
        sketch = s;
        table = table_after len (offer_to_in d item s.cells is (table_of es ns len));
        flag = flag && (kept_by (offer_to_in d item s.cells is (table_of es ns len)).answer && every);
      }
  stepped flag every = λ i. record { sketch = sketch i; table = table_after len (same-offer i); flag = flag && (kept_by (same-offer i).answer && every) }

-- what a call leaves of the layer, its answer, and what it leaves of the index
pub add_is : (d : Dims) (item : Item) (w : ℕ) (xs : List ℤ) (ws es : List ℕ) (ns : List ℤ) (len : ℕ) (is : List ℕ) (xs' : List ℤ) (ws' es' : List ℕ) (ns' : List ℤ) (is' : List ℕ) (r : TriedOffer) (v : ℤ)
    → sketch_of xs' ws' d.rows ≡ add_rows d.cols (hash_by item) w d.rows 0 (sketch_of xs ws d.rows) → v ≡ estimate_of d.rows d.cols (hash_by item) xs'
    → offered_with is' es' ns' r ≡ offer_in d.size is (table_of es ns len) (cand_of item v)
    → ((flag : Bool) → layer_of d xs' ws' es' ns' (len_by r.answer len) (flag && kept_by r.answer) ≡ add_layer_in d (layer_update item w) is (layer_of d xs ws es ns len flag))
    × (((flag : Bool) → r.answer ≡ add_answer_in d (layer_update item w) is (layer_of d xs ws es ns len flag))
    × ((flag : Bool) → is' ≡ add_index_in d (layer_update item w) is (layer_of d xs ws es ns len flag)))
unfolding add_layer_in add_answer_in add_index_in add_sketch
add_is d item w xs ws es ns len is xs' ws' es' ns' is' r v e f g =
    let s = add_rows d.cols (hash_by item) w d.rows 0 (sketch_of xs ws d.rows) in
    let o = offer_to_in d item s.cells is (table_of es ns len) in (
      λ flag.
          ap (λ (b : Bool). layer_of d xs' ws' es' ns' (len_by r.answer len) (flag && b)) (sym (and-true (kept_by r.answer)))
          ∙ stepped d item s es ns len is xs' ws' es' ns' is' r v e f g flag true
          ∙ (λ i. record { sketch = s; table = table_after len o; flag = flag && and-true (kept_by o.answer) i }),
      (λ flag. answered d item s es ns len is xs' ws' es' ns' is' r v e f g, λ flag. indexed d item s es ns len is xs' ws' es' ns' is' r v e f g),
    )

pub delta_is : (d : Dims) (row col : ℕ) (n : ℤ) (item : Item) (xs : List ℤ) (ws es : List ℕ) (ns : List ℤ) (len : ℕ) (is : List ℕ) (xs' : List ℤ) (ws' es' : List ℕ) (ns' : List ℤ) (is' : List ℕ) (r : TriedOffer) (v : ℤ)
    → sketch_of xs' ws' d.rows ≡ add_cell (row * d.cols + col) row n (sketch_of xs ws d.rows) → v ≡ estimate_of d.rows d.cols (hash_by item) xs'
    → offered_with is' es' ns' r ≡ offer_in d.size is (table_of es ns len) (cand_of item v)
    → ((flag every : Bool) → layer_of d xs' ws' es' ns' (len_by r.answer len) (flag && (kept_by r.answer && every)) ≡ delta_layer_in d (delta row col n item every) is (layer_of d xs ws es ns len flag))
    × (((flag every : Bool) → r.answer ≡ delta_answer_in d (delta row col n item every) is (layer_of d xs ws es ns len flag))
    × ((flag every : Bool) → is' ≡ delta_index_in d (delta row col n item every) is (layer_of d xs ws es ns len flag)))
unfolding delta_layer_in delta_answer_in delta_index_in
delta_is d row col n item xs ws es ns len is xs' ws' es' ns' is' r v e f g =
    let s = add_cell (row * d.cols + col) row n (sketch_of xs ws d.rows) in (
      λ flag every. stepped d item s es ns len is xs' ws' es' ns' is' r v e f g flag every,
      (λ flag every. answered d item s es ns len is xs' ws' es' ns' is' r v e f g, λ flag every. indexed d item s es ns len is xs' ws' es' ns' is' r v e f g),
    )
