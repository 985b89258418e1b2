-- A layer's parts of the four slices: how long they are, and that a span names them. Assumes nothing.
use mathlib.Core.Path.{◌≡◌, sym, ap, subst}
use mathlib.Core.List.{List}
use Prim.Native.Nat.{ℕ, ◌+◌, ◌-◌, ◌*◌, ◌≤◌, ◌<◌}
use native.Mathlib.Omega.{arith}
use lib.ListN.{length}
use lib.IntN.{ℤ}
use Rattle.words.specs.Parts.{part, put_part}
use Rattle.words.proofs.Parts.{length_part}
use Rattle.matrix_storage.specs.Bits.{max_rows, max_cols}
use Rattle.header.specs.declared.Shape.{Shape}
use Rattle.header.specs.Shape.{max_layers, max_heap}
use Rattle.header.specs.inner.Accepted.{Accepted}
use Rattle.layout.specs.declared.Span.{Span}
use Rattle.layout.specs.State.{rows_at, cols_at, cell_off, norm_off, cand_off}
use Rattle.layout.specs.Slices.{cells_in, norms_in, cands_in}
use Rattle.layout.specs.inner.Spans.{span_of}
use Rattle.layout.proofs.Offsets.{cell_end, norm_end, cand_end, cells_bound, norms_bound, seats_bound}

-- ---- how long the parts of layer l are

module _ (sh : Shape) (l : ℕ) (h : l < sh.layers) where
  pub cells-long : (xs : List ℤ) → length xs ≡ cells_in sh → length (part (cell_off sh l) (rows_at sh l * cols_at sh l) xs) ≡ rows_at sh l * cols_at sh l
  cells-long xs q = length_part (cell_off sh l) (rows_at sh l * cols_at sh l) xs (omega (arith, q, cell_end sh l h))

  pub norms-long : (ws : List ℕ) → length ws ≡ 2 * norms_in sh → length (part (2 * norm_off sh l) (2 * rows_at sh l) ws) ≡ 2 * rows_at sh l
  norms-long ws q = length_part (2 * norm_off sh l) (2 * rows_at sh l) ws (omega (arith, q, norm_end sh l h))

  pub words_long : (es : List ℕ) → length es ≡ 4 * cands_in sh → length (part (4 * cand_off sh l) (4 * sh.heap_size) es) ≡ 4 * sh.heap_size
  words_long es q = length_part (4 * cand_off sh l) (4 * sh.heap_size) es (omega (arith, q, cand_end sh l h))

  pub seats-long : (ns : List ℤ) → length ns ≡ cands_in sh → length (part (cand_off sh l) sh.heap_size ns) ≡ sh.heap_size
  seats-long ns q = length_part (cand_off sh l) sh.heap_size ns (omega (arith, q, cand_end sh l h))

-- ---- the parts that a span names

-- `xs[a..e]` can be taken: it lies within xs and begins at `most` or before. It is the n elements from o on
pub record Piece {A : Type 0} (a e o n most : ℕ) (xs : List A) : Type 0 where
  pub ordered : a ≤ e
  pub inside : e ≤ length xs
  pub small : a ≤ most
  pub is : part a (e - a) xs ≡ part o n xs
  pub put : (ys : List A) → put_part a (e - a) xs ys ≡ put_part o n xs ys

pub piece : {A : Type 0} (o n most : ℕ) (xs : List A) → o + n ≤ length xs → o ≤ most → Piece o (o + n) o n most xs
piece o n most xs h k = record { ordered = omega arith; inside = h; small = k; is = ap (λ (m : ℕ). part o m xs) long; put = λ ys. ap (λ (m : ℕ). put_part o m xs ys) long }
  where
    long : o + n - o ≡ n
    long = omega arith

module _ (sh : Shape) (a : Accepted sh) (l : ℕ) (h : l < sh.layers) (s : Span) (e : s ≡ span_of sh l) where
  at_most : l ≤ sh.layers
  at_most = omega (arith, h)

  pub cells_piece : (xs : List ℤ) → length xs ≡ cells_in sh → Piece s.cells.start s.cells.end (cell_off sh l) (rows_at sh l * cols_at sh l) (max_layers * (max_rows * max_cols)) xs
  unfolding span_of
  cells_piece xs q =
      subst (λ (x : Span). Piece x.cells.start x.cells.end (cell_off sh l) (rows_at sh l * cols_at sh l) (max_layers * (max_rows * max_cols)) xs) (sym e)
      (piece (cell_off sh l) (rows_at sh l * cols_at sh l) (max_layers * (max_rows * max_cols)) xs (omega (arith, q, cell_end sh l h)) (cells_bound sh a l at_most))

  pub norms_piece : (ws : List ℕ) → length ws ≡ 2 * norms_in sh → Piece s.norms.start s.norms.end (2 * norm_off sh l) (2 * rows_at sh l) (2 * (max_layers * max_rows)) ws
  unfolding span_of
  norms_piece ws q =
      subst (λ (x : Span). Piece x.norms.start x.norms.end (2 * norm_off sh l) (2 * rows_at sh l) (2 * (max_layers * max_rows)) ws) (sym e)
      (piece (2 * norm_off sh l) (2 * rows_at sh l) (2 * (max_layers * max_rows)) ws (omega (arith, q, norm_end sh l h)) (omega (arith, norms_bound sh a l at_most)))

  pub words_piece : (es : List ℕ) → length es ≡ 4 * cands_in sh → Piece s.words.start s.words.end (4 * cand_off sh l) (4 * sh.heap_size) (4 * (max_layers * max_heap)) es
  unfolding span_of
  words_piece es q =
      subst (λ (x : Span). Piece x.words.start x.words.end (4 * cand_off sh l) (4 * sh.heap_size) (4 * (max_layers * max_heap)) es) (sym e)
      (piece (4 * cand_off sh l) (4 * sh.heap_size) (4 * (max_layers * max_heap)) es (omega (arith, q, cand_end sh l h)) (omega (arith, seats_bound sh a l at_most)))

  pub seats_piece : (ns : List ℤ) → length ns ≡ cands_in sh → Piece s.seats.start s.seats.end (cand_off sh l) sh.heap_size (max_layers * max_heap) ns
  unfolding span_of
  seats_piece ns q =
      subst (λ (x : Span). Piece x.seats.start x.seats.end (cand_off sh l) sh.heap_size (max_layers * max_heap) ns) (sym e)
      (piece (cand_off sh l) sh.heap_size (max_layers * max_heap) ns (omega (arith, q, cand_end sh l h)) (seats_bound sh a l at_most))
