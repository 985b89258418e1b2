-- The tables of layers that are merged one after the other. Assumes nothing.
use mathlib.Core.Path.{◌≡◌, sym, ap, ap₂, ◌∙◌}
use mathlib.Core.List.{List}
use Prim.Native.Nat.{ℕ, ◌+◌, ◌<◌}
use native.Mathlib.Omega.{arith}
use lib.ListN.{length}
use Rattle.header.specs.declared.Shape.{Shape}
use Rattle.layer.specs.Layer.{Layer}
use Rattle.layer_indexed.specs.Merging.{merge_index_in}
use Rattle.layer_merge_indexed.proofs.Merges.{merge-index-long}
use Rattle.layout.specs.State.{dims_at, layer_at}
use Rattle.layout.specs.Slices.{Lent, view}
use Rattle.layout.proofs.InTurn.{in_turn-next}
use Rattle.layout_index.specs.Tables.{table_length, tables_in, put_table}
use Rattle.layout_index.proofs.Turns.{TablesInTurn, tables_on}
use Rattle.univmon_merge.specs.inner.Pairs.{MergesReady}
use Rattle.univmon_merge.proofs.Pairings.{Merging, merging_ready}

-- the table that a merge leaves of each layer
abbrev pub tables_of : Lent → Lent → ℕ → List ℕ
tables_of r t l = merge_index_in (dims_at r.head.shape l) (layer_at (view r) l) (layer_at (view t) l)

abbrev pub MergeTables : Lent → Lent → ℕ → List ℕ → List ℕ → ℕ → Type 0
MergeTables r₀ t many xs₀ xs l = TablesInTurn r₀.head.shape (tables_of r₀ t) many 0 xs₀ xs l

pub merging_long : (r₀ t : Lent) (many : ℕ) (xs₀ : List ℕ) (r : Lent) (xs : List ℕ) (l : ℕ) → r.head.shape ≡ r₀.head.shape → MergeTables r₀ t many xs₀ xs l → length xs₀ ≡ tables_in r₀.head.shape
    → length xs ≡ tables_in r.head.shape
merging_long r₀ t many xs₀ r xs l e v h = v.long ∙ h ∙ ap (λ (sh : Shape). tables_in sh) (sym e)

module _ (r₀ t : Lent) (many : ℕ) (p : MergesReady r₀ t many) (r : Lent) (l : ℕ) (v : Merging r₀ t many r l) (h : l < many) where
  long : length (tables_of r t l) ≡ table_length r.head.shape
  long =
      let a = v.standing.accepted in
      merge-index-long (dims_at r.head.shape l) (layer_at (view r) l) (layer_at (view t) l) a.seats a.small (merging_ready r₀ t many p r l v h).fit

  -- the layer was merged, and its table replaced
  pub merging_table : (xs₀ xs : List ℕ) → MergeTables r₀ t many xs₀ xs l → length xs₀ ≡ tables_in r₀.head.shape → (zs : List ℕ) → zs ≡ put_table r.head.shape xs l (tables_of r t l)
      → MergeTables r₀ t many xs₀ zs (l + 1)
  merging_table xs₀ xs w q zs e =
      tables_on r₀.head.shape (tables_of r₀ t) many 0 xs₀ xs l w q (omega (arith, h, p.ready.paired.inside)) (tables_of r t l)
      (ap₂ (λ (sh : Shape) (y : Layer). merge_index_in (dims_at sh l) y (layer_at (view t) l)) v.shape (in_turn-next v (omega (arith, h)) p.ready.paired.inside))
      (long ∙ ap (λ (sh : Shape). table_length sh) v.shape) zs (e ∙ ap (λ (sh : Shape). put_table sh xs l (tables_of r t l)) v.shape)
