-- A delta on one layer of a lent state with an index. Assumes nothing.
use mathlib.Core.Path.{◌≡◌, refl, sym, ap, ap₂, ◌∙◌, subst}
use mathlib.Core.Bool.{Bool, true, false, ◌&&◌}
use mathlib.Core.List.{List}
use Prim.Native.Nat.{ℕ, ◌≤◌}
use lib.ListN.{length, get_or}
use lib.IntN.{ℤ}
use Rattle.heap_moves.specs.Flat.{cand_of}
use Rattle.heap.specs.declared.Answer.{Answer}
use Rattle.heap.specs.Offer.{kept_by, len_by}
use Rattle.heap.specs.inner.Telling.{tell_at}
use Rattle.heap_indexed.proofs.Sizes.{offer-few}
use Rattle.layer.specs.declared.Dims.{Dims}
use Rattle.layer.specs.Layer.{Layer, count_of}
use Rattle.layer.specs.Delta.{Delta, delta_sketch, delta_fits}
use Rattle.layer.specs.inner.Needs.{layer_of, delta}
use Rattle.layer_indexed.specs.Adding.{delta_layer_in, delta_index_in, delta_answer_in, delta_reads_in, delta_moves_in}
use Rattle.layer_indexed.specs.inner.Needs.{Seated, DeltaReadyIn, delta_grade}
use Rattle.layout.specs.declared.Span.{Span}
use Rattle.layout.specs.State.{dims_at, layer_at, put_layer}
use Rattle.layout.specs.Slices.{Lent, view}
use Rattle.layout.specs.Records.{item_at}
use Rattle.layout.specs.inner.Needs.{Standing}
use Rattle.layout.proofs.Views.{shape_by}
use Rattle.layout.proofs.Handed.{Spanned, cell_part, norm_part, word_part, seat_part, handed, returned, housed, word-length, handed_is, Back, back-view, back-standing}
use Rattle.layout_index.specs.declared.TableSpan.{TableSpan}
use Rattle.layout_index.specs.Tables.{table_at, put_table}
use Rattle.layout_index.proofs.Handed.{Tabled, table_part, table_back, table_is, table-put, table-places}
use Rattle.univmon_delta_indexed.specs.inner.Needs.{ArrivesIn}

-- the grade does not look at the layer's flag
flag_unseen : (d : Dims) (u : Delta) (is : List ℕ) (xs : List ℤ) (ws es : List ℕ) (ns : List ℤ) (len : ℕ) (a b : Bool) → delta_grade d u is (layer_of d xs ws es ns len a) ≡ delta_grade d u is (layer_of d xs ws es ns len b)
unfolding delta_grade delta_reads_in delta_fits delta_moves_in
flag_unseen d u is xs ws es ns len a b = refl

module _ {r : Lent} {index : List ℕ} {l : ℕ} {s : Span} {t : TableSpan} (q : Spanned r l s) (v : Tabled r index l t) where
  abbrev d : Dims
  d = dims_at (shape_by r) l

  abbrev len : ℕ
  len = get_or r.head.lens l 0

  abbrev flag : Bool
  flag = get_or r.head.flags l false

  -- the layer's parts of the slices and its table
  pub seated : Seated d (length (cell_part s r.counters)) (length (norm_part s r.norms)) (length (word_part s r.entries)) (length (seat_part s r.counts)) (length (table_part t index)) len
  seated = record { housed = housed q; words = word-length q; places = table-places v }

  -- what is said of the parts that are handed on is said of the layer and its table
  pub own : {A : Type 0} (f : List ℕ → Layer → A) → f (table_part t index) (handed r l s) ≡ f (table_at (shape_by r) index l) (layer_at (view r) l)
  own f = ap₂ f (table_is v) (sym (handed_is q))

  pub ready : {words : List ℕ} {row col : ℕ} {n : ℤ} → ArrivesIn r index words l row col n
      → DeltaReadyIn d len row col n (item_at words l) (cell_part s r.counters) (norm_part s r.norms) (word_part s r.entries) (seat_part s r.counts) (table_part t index)
  ready {words} {row} {col} {n} p =
      record {
        seated = seated;
        below = p.placed.placed.below;
        inside = p.placed.placed.within;
        grade =
            flag_unseen d (delta row col n (item_at words l) true) (table_part t index) (cell_part s r.counters) (norm_part s r.norms) (word_part s r.entries) (seat_part s r.counts) len false flag
            ∙ own (delta_grade d (delta row col n (item_at words l) true)) ∙ p.grade;
      }

  -- ---- the layer was handed on with its table, and both came back as a delta leaves them

  module _ (u : Delta) (a : Answer) (o : a ≡ delta_answer_in d u (table_part t index) (handed r l s)) where
    -- the list tells what the offer did
    pub told-one : (list out : List ℕ) → out ≡ tell_at list l a → out ≡ tell_at list l (delta_answer_in d u (table_at (shape_by r) index l) (layer_at (view r) l))
    told-one list out e = e ∙ ap (tell_at list l) (o ∙ own (delta_answer_in d u))

    -- no more candidates than seats
    few : len_by a len ≤ d.size
    unfolding delta_answer_in
    few =
        subst (λ (z : Answer). len_by z len ≤ d.size) (sym o)
        (offer-few d.size (table_part t index) (handed r l s).table (cand_of u.item (count_of d u.item (delta_sketch d u (handed r l s).sketch).cells)) (q.standing.lens l q.inside))

    module _ (xs : List ℤ) (ws es : List ℕ) (ns : List ℤ) (b : Back q xs ws es ns) where
      pub view-one : layer_of d xs ws es ns (len_by a len) (flag && (kept_by a && u.every)) ≡ delta_layer_in d u (table_part t index) (handed r l s)
          → view (returned r l s xs ws es ns (len_by a len) (flag && (kept_by a && u.every))) ≡ put_layer (view r) l (delta_layer_in d u (table_at (shape_by r) index l) (layer_at (view r) l))
      view-one e = back-view q xs ws es ns (len_by a len) (flag && (kept_by a && u.every)) _ b (e ∙ own (delta_layer_in d u))

      pub standing-one : Standing (returned r l s xs ws es ns (len_by a len) (flag && (kept_by a && u.every)))
      standing-one = back-standing q xs ws es ns (len_by a len) (flag && (kept_by a && u.every)) b few

  pub index-one : (u : Delta) (table : List ℕ) → table ≡ delta_index_in d u (table_part t index) (handed r l s)
      → table_back t index table ≡ put_table (shape_by r) index l (delta_index_in d u (table_at (shape_by r) index l) (layer_at (view r) l))
  index-one u table e = table-put v table ∙ ap (put_table (shape_by r) index l) (e ∙ own (delta_index_in d u))
