-- One layer of a lent state is handed on, and comes back changed. Assumes nothing.
use mathlib.Core.Path.{◌≡◌, sym, ap, ◌∙◌}
use mathlib.Core.Bool.{Bool, false}
use mathlib.Core.List.{List}
use Prim.Native.Nat.{ℕ, ◌-◌, ◌*◌, ◌≤◌, ◌<◌}
use native.Mathlib.Omega.{arith}
use native.Mathlib.Decide.{ℕ_discrete, dec_lt}
use lib.ListN.{length, get_or, set}
use lib.Seq.{get_or-set_same, get_or-set_other, set_out}
use lib.IntN.{ℤ}
use Rattle.words.specs.Parts.{part, put_part}
use Rattle.words.proofs.Parts.{length_part, length-put, put_back}
use Rattle.matrix_storage.specs.Bits.{max_rows, max_cols}
use Rattle.header.specs.Shape.{max_layers, max_heap}
use Rattle.header.specs.Header.{with_layer}
use Rattle.layer.specs.Layer.{Layer}
use Rattle.layer.specs.inner.Needs.{layer_of, Housed}
use Rattle.layout.specs.declared.Span.{Span}
use Rattle.layout.specs.State.{rows_at, cols_at, dims_at, cell_off, norm_off, cand_off, layer_at, put_layer}
use Rattle.layout.specs.Slices.{Lent, lent, view}
use Rattle.layout.specs.inner.Spans.{span_of}
use Rattle.layout.specs.inner.Needs.{Standing}
use Rattle.layout.proofs.Pieces.{Piece, cells_piece, norms_piece, words_piece, seats_piece, words_long}
use Rattle.layout.proofs.Views.{shape_by, layer-view, put_view, housed_here}

-- s is where layer l of a lent state stands
pub record Spanned (r : Lent) (l : ℕ) (s : Span) : Type 0 where
  pub standing : Standing r
  pub inside : l < r.head.shape.layers
  pub is : s ≡ span_of r.head.shape l

-- ---- the parts that a span names, and the layer in them

abbrev pub cell_part : Span → List ℤ → List ℤ
cell_part s xs = part s.cells.start (s.cells.end - s.cells.start) xs

abbrev pub norm_part : Span → List ℕ → List ℕ
norm_part s ws = part s.norms.start (s.norms.end - s.norms.start) ws

abbrev pub word_part : Span → List ℕ → List ℕ
word_part s es = part s.words.start (s.words.end - s.words.start) es

abbrev pub seat_part : Span → List ℤ → List ℤ
seat_part s ns = part s.seats.start (s.seats.end - s.seats.start) ns

abbrev pub handed : Lent → ℕ → Span → Layer
handed r l s =
    layer_of (dims_at (shape_by r) l) (cell_part s r.counters) (norm_part s r.norms) (word_part s r.entries) (seat_part s r.counts) (get_or r.head.lens l 0) (get_or r.head.flags l false)

-- the state after the parts have come back with other contents, and the header has the layer's new flag and length
abbrev pub returned : Lent → ℕ → Span → List ℤ → List ℕ → List ℕ → List ℤ → ℕ → Bool → Lent
returned r l s xs ws es ns len flag =
    lent (with_layer r.head l len flag) (put_part s.cells.start (s.cells.end - s.cells.start) r.counters xs) (put_part s.norms.start (s.norms.end - s.norms.start) r.norms ws)
    (put_part s.words.start (s.words.end - s.words.start) r.entries es) (put_part s.seats.start (s.seats.end - s.seats.start) r.counts ns)

-- all four do: the state is as it was
pub handed_back : (r : Lent) (s : Span) (xs : List ℤ) (ws es : List ℕ) (ns : List ℤ) → xs ≡ cell_part s r.counters → ws ≡ norm_part s r.norms → es ≡ word_part s r.entries → ns ≡ seat_part s r.counts
    → lent r.head (put_part s.cells.start (s.cells.end - s.cells.start) r.counters xs) (put_part s.norms.start (s.norms.end - s.norms.start) r.norms ws)
    (put_part s.words.start (s.words.end - s.words.start) r.entries es) (put_part s.seats.start (s.seats.end - s.seats.start) r.counts ns)
    ≡ r
handed_back r s xs ws es ns a b c d =
    λ i. lent r.head (put_back s.cells.start (s.cells.end - s.cells.start) r.counters xs a i) (put_back s.norms.start (s.norms.end - s.norms.start) r.norms ws b i)
    (put_back s.words.start (s.words.end - s.words.start) r.entries es c i) (put_back s.seats.start (s.seats.end - s.seats.start) r.counts ns d i)

module _ {r : Lent} {l : ℕ} {s : Span} (p : Spanned r l s) where
  pub cell_piece : Piece s.cells.start s.cells.end (cell_off (shape_by r) l) (rows_at (shape_by r) l * cols_at (shape_by r) l) (max_layers * (max_rows * max_cols)) r.counters
  cell_piece = cells_piece (shape_by r) p.standing.accepted l p.inside s p.is r.counters p.standing.sizes.cells

  pub norm_piece : Piece s.norms.start s.norms.end (2 * norm_off (shape_by r) l) (2 * rows_at (shape_by r) l) (2 * (max_layers * max_rows)) r.norms
  norm_piece = norms_piece (shape_by r) p.standing.accepted l p.inside s p.is r.norms p.standing.sizes.norms

  pub word_piece : Piece s.words.start s.words.end (4 * cand_off (shape_by r) l) (4 * (shape_by r).heap_size) (4 * (max_layers * max_heap)) r.entries
  word_piece = words_piece (shape_by r) p.standing.accepted l p.inside s p.is r.entries p.standing.sizes.entries

  pub seat_piece : Piece s.seats.start s.seats.end (cand_off (shape_by r) l) (shape_by r).heap_size (max_layers * max_heap) r.counts
  seat_piece = seats_piece (shape_by r) p.standing.accepted l p.inside s p.is r.counts p.standing.sizes.counts

  pub handed_is : layer_at (view r) l ≡ handed r l s
  handed_is =
      layer-view r p.standing.sizes l p.inside
      ∙ sym (λ i. layer_of (dims_at (shape_by r) l) (cell_piece.is i) (norm_piece.is i) (word_piece.is i) (seat_piece.is i) (get_or r.head.lens l 0) (get_or r.head.flags l false))

  pub housed : Housed (dims_at (shape_by r) l) (length (cell_part s r.counters)) (length (norm_part s r.norms)) (length (seat_part s r.counts)) (get_or r.head.lens l 0)
  housed = rw (cell_piece.is, norm_piece.is, seat_piece.is) (housed_here r p.standing l p.inside)

  pub word-length : length (word_part s r.entries) ≡ 4 * (dims_at (shape_by r) l).size
  word-length = ap length word_piece.is ∙ words_long (shape_by r) l p.inside r.entries p.standing.sizes.entries

  -- ---- another layer comes back

  -- the parts that come back are as long as those that were handed on
  pub record Back (xs : List ℤ) (ws es : List ℕ) (ns : List ℤ) : Type 0 where
    pub cells : length xs ≡ length (cell_part s r.counters)
    pub norms : length ws ≡ length (norm_part s r.norms)
    pub words : length es ≡ length (word_part s r.entries)
    pub seats : length ns ≡ length (seat_part s r.counts)

  pub back-view : (xs : List ℤ) (ws es : List ℕ) (ns : List ℤ) (len : ℕ) (flag : Bool) (y : Layer) → Back xs ws es ns
      → layer_of (dims_at (shape_by r) l) xs ws es ns len flag ≡ y → view (returned r l s xs ws es ns len flag) ≡ put_layer (view r) l y
  back-view xs ws es ns len flag y b e =
      (λ i. view (lent (with_layer r.head l len flag) (cell_piece.put xs i) (norm_piece.put ws i) (word_piece.put es i) (seat_piece.put ns i)))
      ∙ put_view r p.standing.sizes l p.inside xs ws es ns len flag y (b.norms ∙ housed.norms) (b.words ∙ word-length ∙ ap (λ (k : ℕ). 4 * k) (sym (b.seats ∙ housed.seats))) e

  -- the state still fits together
  pub back-standing : (xs : List ℤ) (ws es : List ℕ) (ns : List ℤ) (len : ℕ) (flag : Bool) → Back xs ws es ns → len ≤ (dims_at (shape_by r) l).size → Standing (returned r l s xs ws es ns len flag)
  back-standing xs ws es ns len flag b few =
      record {
        accepted = p.standing.accepted;
        sizes = record {
          cells = long s.cells.start s.cells.end r.counters xs cell_piece.inside cell_piece.ordered b.cells ∙ p.standing.sizes.cells;
          norms = long s.norms.start s.norms.end r.norms ws norm_piece.inside norm_piece.ordered b.norms ∙ p.standing.sizes.norms;
          entries = long s.words.start s.words.end r.entries es word_piece.inside word_piece.ordered b.words ∙ p.standing.sizes.entries;
          counts = long s.seats.start s.seats.end r.counts ns seat_piece.inside seat_piece.ordered b.seats ∙ p.standing.sizes.counts;
        };
        lens = λ m k. at m k (ℕ_discrete m l);
      }
    where
      long : {A : Type 0} (a e : ℕ) (ys zs : List A) → e ≤ length ys → a ≤ e → length zs ≡ length (part a (e - a) ys) → length (put_part a (e - a) ys zs) ≡ length ys
      long a e ys zs room q k = length-put a (e - a) ys zs (omega arith) (k ∙ length_part a (e - a) ys (omega arith))

      at : (m : ℕ) → m < (shape_by r).layers → Dec (m ≡ l) → get_or (set r.head.lens l len) m 0 ≤ (shape_by r).heap_size
      at m k (yes q) = in_or-out (dec_lt l (length r.head.lens))
        where
          in_or-out : Dec (l < length r.head.lens) → get_or (set r.head.lens l len) m 0 ≤ (shape_by r).heap_size
          in_or-out (yes v) = rw (q, get_or-set_same r.head.lens l len 0 v) few
          in_or-out (no v) = rw (set_out r.head.lens l len (omega arith)) (p.standing.lens m k)
      at m k (no q) = rw (get_or-set_other r.head.lens l m len 0 q) (p.standing.lens m k)
