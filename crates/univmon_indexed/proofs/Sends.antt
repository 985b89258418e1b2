-- An update of one layer of a lent state with an index. Assumes nothing.
use mathlib.Core.Path.{◌≡◌, sym, ap, ◌∙◌, subst}
use mathlib.Core.Bool.{Bool, true, false, ◌&&◌}
use mathlib.Core.List.{List}
use Prim.Native.Nat.{ℕ, ◌-◌, ◌≤◌}
use lib.ListN.{length, get_or}
use lib.IntN.{ℤ}
use lib.Dec.{eqb}
use Rattle.words.specs.Num.{top}
use Rattle.words.specs.Parts.{put_part}
use Rattle.countsketch_l2_norm.proofs.Norms.{length-norms}
use Rattle.heap_moves.specs.Flat.{cand_of}
use Rattle.heap_moves.proofs.Views.{length-cands}
use Rattle.heap.specs.declared.Answer.{Answer}
use Rattle.heap.specs.Offer.{kept_by, len_by}
use Rattle.heap.specs.inner.Telling.{tell_at}
use Rattle.heap_indexed.proofs.Sizes.{offer-few}
use Rattle.header.specs.declared.Header.{Header}
use Rattle.header.specs.Header.{with_layer}
use Rattle.layer.specs.declared.Dims.{Dims}
use Rattle.layer.specs.Layer.{Layer, LayerUpdate, layer_update, count_of, add_sketch, add_fits}
use Rattle.layer.specs.inner.Needs.{layer_of, Fits}
use Rattle.layer_indexed.specs.Adding.{add_layer_in, add_index_in, add_answer_in, add_reads_in, add_moves_in}
use Rattle.layer_indexed.specs.inner.Needs.{Seated, AddReadyIn, add_grade}
use Rattle.layout.specs.declared.Span.{Span}
use Rattle.layout.specs.State.{dims_at, layer_at}
use Rattle.layout.specs.Slices.{Lent, lent, view}
use Rattle.layout.specs.Records.{item_at}
use Rattle.layout.proofs.Views.{shape_by}
use Rattle.layout.proofs.Handed.{Spanned, cell_part, norm_part, word_part, seat_part, handed, housed, word-length, handed_is, Back, back-view, back-standing}
use Rattle.layout_index.specs.Tables.{tables_in, table_at, put_table}
use Rattle.layout_index.proofs.Turns.{table-long}
use Rattle.univmon_indexed.specs.inner.Needs.{SentOneIn, grade_in, fine_at}
use Rattle.univmon_indexed.proofs.Grades.{four_is, four_of}

module _ {r : Lent} {l : ℕ} {s : Span} (words : List ℕ) (w : ℕ) (q : Spanned r l s) (index : List ℕ) (long : length index ≡ tables_in r.head.shape) where
  abbrev d : Dims
  d = dims_at (shape_by r) l

  abbrev u : LayerUpdate
  u = layer_update (item_at words l) w

  abbrev is : List ℕ
  is = table_at (shape_by r) index l

  -- the layer's parts of the slices and its table
  pub seated_handed : Seated d (length (cell_part s r.counters)) (length (norm_part s r.norms)) (length (word_part s r.entries)) (length (seat_part s r.counts)) (length is) (get_or r.head.lens l 0)
  seated_handed = record { housed = housed q; words = word-length q; places = table-long (shape_by r) index long l q.inside }

  -- the grade of the layer that is handed on is the layer's
  pub grade_handed : (n : ℕ) → n ≡ add_grade d u is (handed r l s) → n ≡ grade_in r.head.shape words w index l (layer_at (view r) l)
  grade_handed n e = e ∙ ap (add_grade d u is) (sym (handed_is q))

  -- what the update of the layer needs
  pub add_ready_in : w ≤ top → fine_at r.head.shape words w index l (layer_at (view r) l) ≡ true
      → AddReadyIn d (get_or r.head.lens l 0) (item_at words l) w (cell_part s r.counters) (norm_part s r.norms) (word_part s r.entries) (seat_part s r.counts) is
  unfolding add_grade add_reads_in add_fits add_moves_in
  add_ready_in light f =
      record {
        seated = seated_handed;
        light = light;
        grade = ap (add_grade d u is) (sym (handed_is q)) ∙ four_of d u is (layer_at (view r) l) f;
      }

  -- whether the update was made is whether it may be made
  pub made_handed : (b : Bool) → b ≡ eqb (add_grade d u is (handed r l s)) 4 → b ≡ fine_at r.head.shape words w index l (layer_at (view r) l)
  made_handed b e = e ∙ ap (λ (y : Layer). eqb (add_grade d u is y) 4) (sym (handed_is q)) ∙ four_is d u is (layer_at (view r) l)

  -- layer l was handed on with what it holds and its table, and both came back as an update leaves them; the header has its new length and flag
  module _ (xs : List ℤ) (ws es : List ℕ) (ns : List ℤ) (table : List ℕ) (a : Answer) (h : Header) (index' list₀ list : List ℕ) (b : Back q xs ws es ns)
      (e : layer_of d xs ws es ns (len_by a (get_or r.head.lens l 0)) (get_or r.head.flags l false && kept_by a) ≡ add_layer_in d u is (handed r l s))
      (o : a ≡ add_answer_in d u is (handed r l s))
      (t : table ≡ add_index_in d u is (handed r l s))
      (same : length table ≡ length is)
      (hd : h ≡ with_layer r.head l (len_by a (get_or r.head.lens l 0)) (get_or r.head.flags l false && kept_by a))
      (p : index' ≡ put_table (shape_by r) index l table)
      (tell : list ≡ tell_at list₀ l a)
    where
      -- as the layer's own
      layer_is : add_layer_in d u is (handed r l s) ≡ add_layer_in d u is (layer_at (view r) l)
      layer_is = ap (add_layer_in d u is) (sym (handed_is q))

      answer_is : a ≡ add_answer_in d u is (layer_at (view r) l)
      answer_is = o ∙ ap (add_answer_in d u is) (sym (handed_is q))

      table_is : table ≡ add_index_in d u is (layer_at (view r) l)
      table_is = t ∙ ap (add_index_in d u is) (sym (handed_is q))

      -- no more candidates than seats
      few : len_by a (get_or r.head.lens l 0) ≤ d.size
      unfolding add_answer_in
      few = subst (λ (z : Answer). len_by z (get_or r.head.lens l 0) ≤ d.size) (sym o) (offer-few d.size is (handed r l s).table (cand_of u.item (count_of d u.item (add_sketch d u (handed r l s).sketch).cells)) (q.standing.lens l q.inside))

      fit : Fits d (add_layer_in d u is (layer_at (view r) l))
      fit =
          subst (Fits d) (e ∙ layer_is)
          (record { cells = b.cells ∙ (housed q).cells; norms = length-norms ws d.rows; cands = length-cands es ns ∙ b.seats ∙ (housed q).seats })

      pub sent-one : SentOneIn words w l r (lent h (put_part s.cells.start (s.cells.end - s.cells.start) r.counters xs) (put_part s.norms.start (s.norms.end - s.norms.start) r.norms ws)
          (put_part s.words.start (s.words.end - s.words.start) r.entries es) (put_part s.seats.start (s.seats.end - s.seats.start) r.counts ns)) index index' list₀ list
      unfolding layer_at view
      sent-one =
          record {
            layers = rw hd (back-view q xs ws es ns _ _ _ b (e ∙ layer_is));
            fits = fit;
            standing = rw hd (back-standing q xs ws es ns _ _ b few);
            tables = p ∙ ap (put_table (shape_by r) index l) table_is;
            long = ap length (sym table_is) ∙ same ∙ table-long (shape_by r) index long l q.inside;
            told = tell ∙ ap (tell_at list₀ l) answer_is;
          }
