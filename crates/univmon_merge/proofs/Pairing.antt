-- One layer of two states of one shape is handed on. Assumes nothing.
use mathlib.Core.Path.{◌≡◌, refl, sym, ap, ap₂, ◌∙◌, subst}
use mathlib.Core.Bool.{Bool, true, false, ◌&&◌}
use mathlib.Core.List.{List}
use Prim.Native.Nat.{ℕ, ◌+◌, ◌-◌, ◌*◌, ◌≤◌, ◌<◌}
use native.Mathlib.Omega.{arith}
use native.Mathlib.Nat.{mul-suc, mul-le-mul, le_refl}
use lib.ListN.{length, get_or}
use Rattle.words.specs.Num.{all_in}
use Rattle.words.specs.Parts.{part, put_part}
use Rattle.words.proofs.Bools.{and_left, and_right}
use Rattle.words.proofs.Parts.{length_part}
use Rattle.heap.specs.Places.{places}
use Rattle.header.specs.Shape.{max_layers, max_heap}
use Rattle.header.specs.declared.Shape.{Shape}
use Rattle.layer.specs.declared.Dims.{Dims}
use Rattle.layer.specs.Layer.{Layer, counts_read}
use Rattle.layer.specs.Merge.{merge_answer, merge_reads, merge_fits}
use Rattle.layer.specs.inner.Gather as gather
use Rattle.layer.specs.inner.Needs.{layer_of, Housed}
use Rattle.layout.specs.declared.Span.{Span}
use Rattle.layout.specs.declared.lending.LentLayer.{LentLayer}
use Rattle.layout.specs.State.{dims_at, layer_at}
use Rattle.layout.specs.Slices.{Lent, view}
use Rattle.layout.specs.inner.Lending.{layer_read}
use Rattle.layout.specs.inner.Telling.{put_places}
use Rattle.layout.proofs.Pieces.{Piece, piece}
use Rattle.layout.proofs.Views.{shape_by}
use Rattle.layout.proofs.Handed.{Spanned, handed, cell_part, norm_part, word_part, seat_part, housed, word-length, handed_is}
use Rattle.univmon_merge.specs.inner.Pairs.{Paired, MergeReady, answers_with}

-- y is layer l of the second state
pub record Second (r t : Lent) (l : ℕ) (y : LentLayer) : Type 0 where
  pub paired : Paired r t 1 l
  pub is : layer_read y ≡ layer_at (view t) l
  pub dims : y.dims ≡ dims_at (shape_by t) l
  pub housed : Housed y.dims (length y.cells.now) (length y.norms.now) (length y.counts.now) y.len
  pub words : length y.entries.now ≡ 4 * y.dims.size

pub pair_inside : {r t : Lent} {l : ℕ} → Paired r t 1 l → l < (shape_by r).layers
pair_inside p = omega (arith, p.inside)

-- the layer, with other dimensions
abbrev pub layer_as : Dims → LentLayer → Layer
layer_as d y = layer_of d y.cells.now y.norms.now y.entries.now y.counts.now y.len y.flag

-- ---- the second state's layer, by the shape of the first

module _ {r t : Lent} {l : ℕ} {y : LentLayer} (q : Second r t l y) where
  alike : y.dims ≡ dims_at (shape_by r) l
  alike = q.dims ∙ ap (λ (sh : Shape). dims_at sh l) q.paired.same

  pub other_is : layer_at (view t) l ≡ layer_as (dims_at (shape_by r) l) y
  other_is = sym q.is ∙ ap (λ (d : Dims). layer_as d y) alike

  pub other-housed : Housed (dims_at (shape_by r) l) (length y.cells.now) (length y.norms.now) (length y.counts.now) y.len
  other-housed = subst (λ (d : Dims). Housed d (length y.cells.now) (length y.norms.now) (length y.counts.now) y.len) alike q.housed

  other-words : length y.entries.now ≡ 4 * (dims_at (shape_by r) l).size
  other-words = q.words ∙ ap (λ (d : Dims). 4 * d.size) alike

-- what a merge reads of two layers is in range: so are the counters
pub cells_read : (x y : Layer) → merge_reads x y ≡ true → (all_in x.sketch.cells ≡ true) × (all_in y.sketch.cells ≡ true)
unfolding merge_reads
cells_read x y e =
    let a = all_in x.sketch.cells in
    let b = counts_read x.table in
    let c = all_in y.sketch.cells in
    let three = and_left (a && b && c) (counts_read y.table) e in
    (and_left a b (and_left (a && b) c three), and_right (a && b) c three)

-- what the merge of one layer needs: the first's parts as a span names them, the second's as it is read
pub merge-ready : {r t : Lent} {l : ℕ} {s : Span} {y : LentLayer} → MergeReady r t l → Spanned r l s → Second r t l y → let d = dims_at (shape_by r) l in
    gather.LayerMergeReady d (get_or r.head.lens l 0) y.len (cell_part s r.counters) (norm_part s r.norms) (word_part s r.entries) (seat_part s r.counts) y.cells.now y.entries.now
unfolding merge_fits
merge-ready {r} {t} {l} {s} {y} p q w =
    let h = other-housed w in
    let read = cells_read (handed r l s) (layer_as (dims_at (shape_by r) l) y) (sym (ap₂ merge_reads (handed_is q) (other_is w)) ∙ p.ready.read) in
    record {
      housed = housed q;
      words = word-length q;
      cells = h.cells;
      others = record { words = omega (arith, h.used, other-words w); few = omega (arith, h.used, h.few) };
      other_used = h.used;
      read = read.0;
      other_read = read.1;
      fit = sym (ap₂ merge_fits (handed_is q) (other_is w)) ∙ p.fit;
    }

-- the flag as the header takes it
pub flag_is : (a b c : Bool) → a && (b && c) ≡ a && b && c
flag_is true b c = refl
flag_is false b c = refl

-- ---- the layer's places in the list

-- two words for each place
pub four : (h : ℕ) → 2 * (2 * h) ≡ 4 * h
four h = omega arith

-- a list with the places of k layers has those of layer l
pub place-room : (h l k m : ℕ) → l < k → 4 * h * k ≤ m → 4 * h * l + 4 * h ≤ m
place-room h l k m b r = omega (arith, mul-suc (4 * h) l, mul-le-mul (le_refl (4 * h)) b)

module _ {r : Lent} {l : ℕ} {s : Span} (q : Spanned r l s) (list : List ℕ) (long : 4 * (shape_by r).heap_size * (shape_by r).layers ≤ length list) where
  abbrev width : ℕ
  width = 4 * (shape_by r).heap_size

  room : width * l + width ≤ length list
  room = place-room (shape_by r).heap_size l (shape_by r).layers (length list) q.inside long

  pub list_piece : Piece (width * l) (width * l + width) (width * l) width (4 * max_heap * max_layers) list
  list_piece =
      let a = q.standing.accepted in
      let most = place-room (shape_by r).heap_size l max_layers (4 * (shape_by r).heap_size * max_layers) (omega (arith, q.inside, a.few)) (le_refl _) in
      piece (width * l) width (4 * max_heap * max_layers) list room (omega (arith, most, a.small))

  pub list_length : length (part (width * l) (width * l + width - width * l) list) ≡ width
  list_length = ap length list_piece.is ∙ length_part (width * l) width list room

  pub list_back : {t : Lent} {y : LentLayer} → Second r t l y → (ys : List ℕ)
      → ys ≡ places (2 * (shape_by r).heap_size) (merge_answer (dims_at (shape_by r) l) (handed r l s) (layer_as (dims_at (shape_by r) l) y))
      → put_part (width * l) (width * l + width - width * l) list ys ≡ put_places (2 * (shape_by r).heap_size) list l (answers_with (view r) (view t) l)
  unfolding put_places view
  list_back {t} {y} p ys e =
      let n = 2 * (shape_by r).heap_size in
      list_piece.put ys
      ∙ ap (put_part (width * l) width list) (e ∙ sym (ap (places n) (ap₂ (merge_answer (dims_at (shape_by r) l)) (handed_is q) (other_is p))))
      ∙ sym (ap (λ (w : ℕ). put_part (w * l) w list (places n (answers_with (view r) (view t) l))) (four (shape_by r).heap_size))
