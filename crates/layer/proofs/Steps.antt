-- What the stores and the offer leave of a layer is the layer of the definition. Assumes nothing.
use mathlib.Core.Path.{◌≡◌, refl, sym, ap, ◌∙◌}
use mathlib.Core.Bool.{Bool, true, ◌&&◌}
use mathlib.Core.List.{List}
use Prim.Native.Nat.{ℕ, ◌+◌, ◌*◌, ◌≤◌}
use native.Mathlib.Omega.{arith}
use lib.ListN.{length-set}
use lib.IntN.{ℤ}
use Rattle.words.proofs.Bools.{and-true}
use Rattle.countsketch_l2_norm.specs.Sketch.{Sketch, add_cell, add_rows}
use Rattle.countsketch_l2_norm.specs.inner.Needs.{sketch_of}
use Rattle.countsketch_l2_norm.specs.Estimate.{estimate_of}
use Rattle.countsketch_l2_norm.proofs.After.{length-rows, length-rows-norms}
use Rattle.heap_moves.specs.declared.Item.{Item}
use Rattle.heap_moves.specs.Flat.{cand_of, entries_of, counts_of}
use Rattle.heap_moves.specs.Cands.{Cand}
use Rattle.heap.specs.declared.Answer.{Answer}
use Rattle.heap.specs.Offer.{Table, Offered, offer, rescore, seat, replace_root, kept_by, kept, len_by}
use Rattle.heap.specs.inner.Slices.{table_of, offered}
use Rattle.heap.proofs.Cases.{offer_cases}
use Rattle.heap.proofs.Sounds.{offer-len, offer-table, offer-long}
use Rattle.layer.specs.declared.Dims.{Dims}
use Rattle.layer.specs.Layer.{Layer, LayerUpdate, hash_by, count_of, offer_to, add_sketch, add_layer, add_answer, layer_update}
use Rattle.layer.specs.inner.Needs.{layer_of, Fits, delta}
use Rattle.layer.specs.Delta.{Delta, delta_layer, delta_answer}

-- a sketch, and the offer of a key with its count from the new counters
module _ (d : Dims) (item : Item) (s : Sketch) (es : List ℕ) (ns : List ℤ) (len : ℕ) (xs' : List ℤ) (ws' es' : List ℕ) (ns' : List ℤ) (a : Answer) (v : ℤ)
    (sketch : sketch_of xs' ws' d.rows ≡ s) (count : v ≡ estimate_of d.rows d.cols (hash_by item) xs')
    (words : es' ≡ entries_of (offered es ns d.size len item v).table.cands) (counts : ns' ≡ counts_of (offered es ns d.size len item v).table.cands)
    (said : a ≡ (offered es ns d.size len item v).answer) where
  -- the offer is the definition's
  same-offer : offered es ns d.size len item v ≡ offer_to d item s.cells (table_of es ns len)
  same-offer = ap (λ (n : ℤ). offer d.size (table_of es ns len) (cand_of item n)) (count ∙ ap (λ (t : Sketch). count_of d item t.cells) sketch)

  pub answered : a ≡ (offer_to d item s.cells (table_of es ns len)).answer
  answered = said ∙ ap (λ (o : Offered). o.answer) same-offer

  pub stepped : (flag every : Bool) → layer_of d xs' ws' es' ns' (len_by a len) (flag && (kept_by a && every))
      ≡ record { sketch = s; table = (offer_to d item s.cells (table_of es ns len)).table; flag = flag && (kept (offer_to d item s.cells (table_of es ns len)) && every) }
  stepped flag every =
      let t : table_of es' ns' (len_by a len) ≡ (offer_to d item s.cells (table_of es ns len)).table =
      offer-table es ns d.size len item v es' ns' a words counts said ∙ ap (λ (o : Offered). o.table) same-offer in
      λ i. record { sketch = sketch i; table = t i; flag = flag && (kept_by (answered i) && every) }

pub add_is : (d : Dims) (item : Item) (w : ℕ) (xs : List ℤ) (ws es : List ℕ) (ns : List ℤ) (len : ℕ) (xs' : List ℤ) (ws' es' : List ℕ) (ns' : List ℤ) (a : Answer) (v : ℤ)
    → sketch_of xs' ws' d.rows ≡ add_rows d.cols (hash_by item) w d.rows 0 (sketch_of xs ws d.rows) → v ≡ estimate_of d.rows d.cols (hash_by item) xs'
    → es' ≡ entries_of (offered es ns d.size len item v).table.cands → ns' ≡ counts_of (offered es ns d.size len item v).table.cands
    → a ≡ (offered es ns d.size len item v).answer
    → ((flag : Bool) → layer_of d xs' ws' es' ns' (len_by a len) (flag && kept_by a) ≡ add_layer d (layer_update item w) (layer_of d xs ws es ns len flag))
    × ((flag : Bool) → a ≡ add_answer d (layer_update item w) (layer_of d xs ws es ns len flag))
unfolding add_layer add_answer add_sketch
add_is d item w xs ws es ns len xs' ws' es' ns' a v e f g h k =
    let s = add_rows d.cols (hash_by item) w d.rows 0 (sketch_of xs ws d.rows) in
    let o = offer_to d item s.cells (table_of es ns len) in (
      λ flag.
          ap (λ (b : Bool). layer_of d xs' ws' es' ns' (len_by a len) (flag && b)) (sym (and-true (kept_by a)))
          ∙ stepped d item s es ns len xs' ws' es' ns' a v e f g h k flag true
          ∙ (λ i. record { sketch = s; table = o.table; flag = flag && and-true (kept o) i }),
      λ flag. answered d item s es ns len xs' ws' es' ns' a v e f g h k,
    )

pub delta_is : (d : Dims) (row col : ℕ) (n : ℤ) (item : Item) (xs : List ℤ) (ws es : List ℕ) (ns : List ℤ) (len : ℕ) (xs' : List ℤ) (ws' es' : List ℕ) (ns' : List ℤ) (a : Answer) (v : ℤ)
    → sketch_of xs' ws' d.rows ≡ add_cell (row * d.cols + col) row n (sketch_of xs ws d.rows) → v ≡ estimate_of d.rows d.cols (hash_by item) xs'
    → es' ≡ entries_of (offered es ns d.size len item v).table.cands → ns' ≡ counts_of (offered es ns d.size len item v).table.cands
    → a ≡ (offered es ns d.size len item v).answer
    → ((flag every : Bool) → layer_of d xs' ws' es' ns' (len_by a len) (flag && (kept_by a && every)) ≡ delta_layer d (delta row col n item every) (layer_of d xs ws es ns len flag))
    × ((flag every : Bool) → a ≡ delta_answer d (delta row col n item every) (layer_of d xs ws es ns len flag))
unfolding delta_layer delta_answer
delta_is d row col n item xs ws es ns len xs' ws' es' ns' a v e f g h k =
    let s = add_cell (row * d.cols + col) row n (sketch_of xs ws d.rows) in (
      λ flag every. stepped d item s es ns len xs' ws' es' ns' a v e f g h k flag every,
      λ flag every. answered d item s es ns len xs' ws' es' ns' a v e f g h k,
    )

-- ---- the answer says which length and which flag a layer has then

pub add-len : (d : Dims) (u : LayerUpdate) (l : Layer) → (add_layer d u l).table.len ≡ len_by (add_answer d u l) l.table.len
unfolding add_layer add_answer
add-len d u l = offer-len d.size l.table _

pub add-flag : (d : Dims) (u : LayerUpdate) (l : Layer) → (add_layer d u l).flag ≡ (l.flag && kept_by (add_answer d u l))
unfolding add_layer add_answer
add-flag d u l = refl

pub delta-len : (d : Dims) (u : Delta) (l : Layer) → (delta_layer d u l).table.len ≡ len_by (delta_answer d u l) l.table.len
unfolding delta_layer delta_answer
delta-len d u l = offer-len d.size l.table _

pub delta-flag : (d : Dims) (u : Delta) (l : Layer) → (delta_layer d u l).flag ≡ (l.flag && (kept_by (delta_answer d u l) && u.every))
unfolding delta_layer delta_answer
delta-flag d u l = refl

-- ---- no more candidates than seats

pub offer-few : (size : ℕ) (t : Table) (c : Cand) → t.len ≤ size → (offer size t c).table.len ≤ size
unfolding rescore seat replace_root
offer-few size t c h = offer_cases size t c (λ (o : Offered). o.table.len ≤ size) (λ p. h) (λ p q. omega arith) (λ p q e. h) (λ p q e. h)

pub add-few : (d : Dims) (u : LayerUpdate) (l : Layer) → l.table.len ≤ d.size → (add_layer d u l).table.len ≤ d.size
unfolding add_layer
add-few d u l h = offer-few d.size l.table _ h

pub delta-few : (d : Dims) (u : Delta) (l : Layer) → l.table.len ≤ d.size → (delta_layer d u l).table.len ≤ d.size
unfolding delta_layer
delta-few d u l h = offer-few d.size l.table _ h

-- ---- a layer keeps its lengths

pub add-lengths : (d : Dims) (u : LayerUpdate) (l : Layer) → Fits d l → Fits d (add_layer d u l)
unfolding add_layer add_sketch
add-lengths d u l f =
    record {
      cells = length-rows d.cols (hash_by u.item) u.weight d.rows 0 l.sketch ∙ f.cells;
      norms = length-rows-norms d.cols (hash_by u.item) u.weight d.rows 0 l.sketch ∙ f.norms;
      cands = offer-long d.size l.table _ ∙ f.cands;
    }

pub delta-lengths : (d : Dims) (u : Delta) (l : Layer) → Fits d l → Fits d (delta_layer d u l)
unfolding delta_layer add_cell
delta-lengths d u l f =
    record {
      cells = length-set l.sketch.cells _ _ ∙ f.cells;
      norms = length-set l.sketch.norms _ _ ∙ f.norms;
      cands = offer-long d.size l.table _ ∙ f.cands;
    }
