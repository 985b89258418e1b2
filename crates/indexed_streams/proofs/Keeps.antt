-- States that pass the check, index included, as facts layer by layer. Assumes nothing.
use mathlib.Core.Path.{◌≡◌, sym, ap, ◌∙◌, subst}
use mathlib.Core.Bool.{Bool, true, ◌&&◌}
use mathlib.Core.List.{List}
use Prim.Native.Nat.{ℕ, ◌+◌, ◌≤◌, ◌<◌}
use native.Mathlib.Omega.{arith}
use native.Mathlib.Decide.{dec_le, dec_lt}
use lib.ListN.{length}
use lib.Dec.{eqb}
use borrow.Author.Tests.{eqb-true, eq-eqb}
use Rattle.words.proofs.Bools.{and_left, and_right, both}
use Rattle.header.specs.declared.Shape.{Shape}
use Rattle.heap_index.specs.Index.{index_length}
use Rattle.heap_index.proofs.Scanned.{index-room}
use Rattle.heap_indexed.proofs.Runs.{Passes}
use Rattle.layer.specs.declared.Dims.{Dims}
use Rattle.layer.specs.Layer.{Layer}
use Rattle.layout.specs.State.{dims_at, layer_at}
use Rattle.layout.specs.Slices.{Lent, view}
use Rattle.layout.proofs.States.{all-at}
use Rattle.layout.proofs.Replaced.{all-layers}
use Rattle.layout_index.specs.Tables.{tables_in, table_at}
use Rattle.layout_index.proofs.Turns.{table-long}
use Rattle.state_check.specs.Check.{state_ok}
use Rattle.state_check.specs.Reached.{Passing}
use Rattle.state_check.proofs.Whole.{Whole}
use Rattle.state_check.proofs.WholeStates.{ok-standing, whole-at}
use Rattle.indexed_state.specs.Check.{table_ok, tables_ok, indexed_ok}
use Rattle.indexed_streams.specs.Runs.{Indexed}
use Rattle.indexed_streams.specs.IndexedRuns.{PassingIn}

-- header and slices pass, and the table of every layer does
pub record Kept (r : Lent) (xs : List ℕ) : Type 0 where
  pub passing : Passing r
  pub long : length xs ≡ tables_in r.head.shape
  pub tables : (l : ℕ) → l < r.head.shape.layers → Passes r.head.shape.heap_size (table_at r.head.shape xs l) (layer_at (view r) l).table

-- the table of a layer that passes its own check
passes_of : (d : Dims) (xs : List ℕ) (y : Layer) → 0 < d.size → d.size ≤ 1024 → length xs ≡ index_length d.size → Whole d y → table_ok xs y ≡ true → Passes d.size xs y.table
passes_of d xs y some few long w e =
    record {
      index = e;
      ranged = λ j h. w.counts j h;
      long = w.table.long;
      used = w.table.used;
      some = some;
      room = omega (arith, long, index-room d.size some few);
    }

module _ (z : Indexed) where
  abbrev shape : Shape
  shape = z.lends.head.shape

  -- the check's parts behind that of the state
  abbrev length_ok : Bool
  length_ok = eqb (length z.index) (tables_in shape)

  abbrev tested : Bool
  tested = tables_ok (view z.lends) z.index

  pub kept_of : PassingIn z → Kept z.lends z.index
  unfolding indexed_ok view
  kept_of p =
      let ok : state_ok z.lends ≡ true = and_left (state_ok z.lends) (length_ok && tested) p.ok in
      let rest : length_ok && tested ≡ true = and_right (state_ok z.lends) (length_ok && tested) p.ok in
      let long : length z.index ≡ tables_in shape = eqb-true _ _ (and_left length_ok tested rest) in
      let a = (ok-standing z.lends ok).accepted in
      record {
        passing = record { arrays = p.arrays; ok = ok };
        long = long;
        tables = λ l h.
            passes_of (dims_at shape l) (table_at shape z.index l) (layer_at (view z.lends) l) (omega (arith, a.seats)) a.small (table-long shape z.index long l h) (whole-at z.lends ok l h)
            (all-at (λ m y. table_ok (table_at shape z.index m) y) shape.layers 0 (view z.lends) l (omega arith) (omega (arith, h)) (and_right length_ok tested rest));
      }

  pub passing_of : Kept z.lends z.index → PassingIn z
  unfolding indexed_ok view
  passing_of k =
      record {
        arrays = k.passing.arrays;
        ok = both {a = state_ok z.lends} {b = length_ok && tested} k.passing.ok
            (both {a = length_ok} {b = tested} (eq-eqb _ _ k.long)
            (all-layers (λ m y. table_ok (table_at shape z.index m) y) shape.layers 0 (view z.lends) (λ m p h. (k.tables m (omega (arith, h))).index)));
      }

-- ---- states of which some layers were replaced, and their tables with them

-- of r and xs, t and ys are left: many layers from the first on pass, and the others are as they were
pub record Replaced (r t : Lent) (xs ys : List ℕ) (many first : ℕ) : Type 0 where
  pub passing : Passing t
  pub shape : t.head.shape ≡ r.head.shape
  pub long : length ys ≡ length xs
  pub inside : (m : ℕ) → first ≤ m → m < many + first → Passes r.head.shape.heap_size (table_at r.head.shape ys m) (layer_at (view t) m).table
  pub outside : (m : ℕ) → m < r.head.shape.layers → (first ≤ m → m < many + first → ⊥)
      → (table_at r.head.shape ys m ≡ table_at r.head.shape xs m) × (layer_at (view t) m ≡ layer_at (view r) m)

pub kept_replaced : {r t : Lent} {xs ys : List ℕ} {many first : ℕ} → Kept r xs → Replaced r t xs ys many first → Kept t ys
kept_replaced {r = r} {t = t} {xs = xs} {ys = ys} {many = many} {first = first} k c =
    record {
      passing = c.passing;
      long = c.long ∙ k.long ∙ ap (λ (sh : Shape). tables_in sh) (sym c.shape);
      tables = λ l h. subst (λ (sh : Shape). Passes sh.heap_size (table_at sh ys l) (layer_at (view t) l).table) (sym c.shape)
          (at l (subst (λ (sh : Shape). l < sh.layers) c.shape h) (dec_le first l) (dec_lt l (many + first)));
    }
  where
    kept : (l : ℕ) → l < r.head.shape.layers → (first ≤ l → l < many + first → ⊥) → Passes r.head.shape.heap_size (table_at r.head.shape ys l) (layer_at (view t) l).table
    kept l h o =
        subst (λ (zs : List ℕ). Passes r.head.shape.heap_size zs (layer_at (view t) l).table) (sym (c.outside l h o).0)
        (subst (λ (y : Layer). Passes r.head.shape.heap_size (table_at r.head.shape xs l) y.table) (sym (c.outside l h o).1) (k.tables l h))

    at : (l : ℕ) → l < r.head.shape.layers → Dec (first ≤ l) → Dec (l < many + first) → Passes r.head.shape.heap_size (table_at r.head.shape ys l) (layer_at (view t) l).table
    at l h (yes a) (yes b) = c.inside l a b
    at l h (yes a) (no b) = kept l h (λ _ q. b q)
    at l h (no a) q = kept l h (λ z _. a z)
