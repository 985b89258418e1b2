-- A layer's table is handed on, and comes back changed. Assumes nothing.
use mathlib.Core.Path.{◌≡◌, sym, ap, subst, ◌∙◌}
use mathlib.Core.List.{List}
use Prim.Native.Nat.{ℕ, ◌+◌, ◌-◌, ◌*◌, ◌≤◌, ◌<◌}
use native.Mathlib.Omega.{arith}
use native.Mathlib.Nat.{mul-le-mul}
use lib.ListN.{length}
use Rattle.words.specs.Parts.{part, put_part}
use Rattle.header.specs.declared.Shape.{Shape}
use Rattle.header.specs.Shape.{max_layers}
use Rattle.header.specs.inner.Accepted.{Accepted}
use Rattle.heap_index.proofs.Scanned.{index_bound}
use Rattle.layout.specs.Slices.{Lent}
use Rattle.layout.proofs.Pieces.{Piece, piece}
use Rattle.layout_index.specs.declared.TableSpan.{TableSpan}
use Rattle.layout_index.specs.Tables.{table_length, tables_in, table_at, put_table}
use Rattle.layout_index.specs.inner.Needs.{StandingIn}
use Rattle.layout_index.proofs.Turns.{table-room, table-long, put_table-long}

-- a table has at most 2,048 places
abbrev pub most_places : ℕ
most_places = 2048

module _ (sh : Shape) (a : Accepted sh) where
  pub table_bound : table_length sh ≤ most_places
  table_bound = index_bound sh.heap_size a.small

  -- layers before l take no more places than all layers of the largest tables
  pub places_bound : (l : ℕ) → l ≤ sh.layers → table_length sh * l ≤ max_layers * most_places
  places_bound l h =
      let few : l ≤ max_layers = omega (arith, h, a.few) in
      omega (arith, mul-le-mul table_bound few)

-- what `table_span` answers of layer l
abbrev pub TableAt : Shape → ℕ → TableSpan → Type 0
TableAt sh l s = (s.start ≡ table_length sh * l) × (s.end ≡ table_length sh * l + table_length sh)

-- the part of an index that such a span names is the layer's table
module _ (sh : Shape) (a : Accepted sh) (l : ℕ) (h : l < sh.layers) (s : TableSpan) (e : TableAt sh l s) where
  pub span_piece : (xs : List ℕ) → length xs ≡ tables_in sh → Piece s.start s.end (table_length sh * l) (table_length sh) (max_layers * most_places) xs
  span_piece xs q =
      subst (λ (x : ℕ). Piece x s.end (table_length sh * l) (table_length sh) (max_layers * most_places) xs) (sym e.0)
      (subst (λ (y : ℕ). Piece (table_length sh * l) y (table_length sh * l) (table_length sh) (max_layers * most_places) xs) (sym e.1)
      (piece (table_length sh * l) (table_length sh) (max_layers * most_places) xs (table-room sh xs q l h) (places_bound sh a l (omega (arith, h)))))

-- ---- of a lent state with an index

-- s is where layer l's table stands in the index xs of a lent state
pub record Tabled (r : Lent) (xs : List ℕ) (l : ℕ) (s : TableSpan) : Type 0 where
  pub standing : StandingIn r xs
  pub inside : l < r.head.shape.layers
  pub is : TableAt r.head.shape l s

abbrev pub table_part : TableSpan → List ℕ → List ℕ
table_part s xs = part s.start (s.end - s.start) xs

-- the index after the part has come back with other contents
abbrev pub table_back : TableSpan → List ℕ → List ℕ → List ℕ
table_back s xs ys = put_part s.start (s.end - s.start) xs ys

module _ {r : Lent} {xs : List ℕ} {l : ℕ} {s : TableSpan} (p : Tabled r xs l s) where
  pub table_piece : Piece s.start s.end (table_length r.head.shape * l) (table_length r.head.shape) (max_layers * most_places) xs
  table_piece = span_piece r.head.shape p.standing.standing.accepted l p.inside s p.is xs p.standing.tables

  pub table_is : table_part s xs ≡ table_at r.head.shape xs l
  table_is = table_piece.is

  pub table-places : length (table_part s xs) ≡ table_length r.head.shape
  table-places = ap length table_is ∙ table-long r.head.shape xs p.standing.tables l p.inside

  pub table-put : (ys : List ℕ) → table_back s xs ys ≡ put_table r.head.shape xs l ys
  table-put ys = table_piece.put ys

  -- a table of the same length leaves the index as long as it was
  pub table-back : (ys : List ℕ) → length ys ≡ length (table_part s xs) → length (table_back s xs ys) ≡ tables_in r.head.shape
  table-back ys e =
      ap length (table-put ys) ∙ put_table-long r.head.shape xs p.standing.tables l p.inside ys (e ∙ table-places) ∙ p.standing.tables
