-- Reading a layer of a state after layers were put. Assumes nothing.
use mathlib.Core.Path.{◌≡◌, refl, sym, ap, ap₂, subst, ◌∙◌}
use mathlib.Core.Logic.{◌≢◌}
use Prim.Native.Nat.{ℕ, zero, suc, ◌+◌, ◌-◌, ◌*◌, ◌≤◌, ◌<◌}
use native.Mathlib.Omega.{arith}
use native.Mathlib.Numerals.{add-one}
use native.Mathlib.Decide.{dec_lt, ℕ_discrete}
use mathlib.Core.Bool.{Bool, true, false, ◌&&◌}
use mathlib.Core.List.{List}
use lib.ListN.{length}
use lib.Seq.{get_or-set_other}
use lib.IntN.{ℤ}
use Rattle.words.proofs.Bools.{and_left, and_right}
use Rattle.words.proofs.Parts.{length_part, put-before, put-after}
use Rattle.heap_moves.specs.Cands.{Cand}
use Rattle.header.specs.declared.Shape.{Shape}
use Rattle.layer.specs.Layer.{Layer}
use Rattle.layer.specs.inner.Needs.{Fits}
use Rattle.layout.proofs.Offsets.{off_step, cell_end, norm_end, cand_end}
use Rattle.layout.specs.State.{State, rows_at, cols_at, dims_at, cell_off, norm_off, cand_off, layer_at, put_layer, all_layers}

-- ---- lengths

-- the slices have the lengths of the shape
pub record Long (s : State) : Type 0 where
  pub counters : length s.counters ≡ cell_off s.head.shape s.head.shape.layers
  pub norms : length s.norms ≡ norm_off s.head.shape s.head.shape.layers
  pub cands : length s.cands ≡ cand_off s.head.shape s.head.shape.layers

pub layer_path : {c c' : List ℤ} {n n' : List ℕ} {t t' : List Cand} {k k' : ℕ} {f f' : Bool} → c ≡ c' → n ≡ n' → t ≡ t' → k ≡ k' → f ≡ f'
    → ◌≡◌ {A = Layer} (record { sketch = record { cells = c; norms = n }; table = record { cands = t; len = k }; flag = f })
    (record { sketch = record { cells = c'; norms = n' }; table = record { cands = t'; len = k' }; flag = f' })
layer_path p q r s t = λ i. record { sketch = record { cells = p i; norms = q i }; table = record { cands = r i; len = s i }; flag = t i }

module _ (s : State) (z : Long s) where
  pub cell_room : (l : ℕ) → l < s.head.shape.layers → cell_off s.head.shape l + (dims_at s.head.shape l).rows * (dims_at s.head.shape l).cols ≤ length s.counters
  cell_room l h = omega (arith, z.counters, cell_end s.head.shape l h)

  pub norm-room : (l : ℕ) → l < s.head.shape.layers → norm_off s.head.shape l + (dims_at s.head.shape l).rows ≤ length s.norms
  norm-room l h = omega (arith, z.norms, norm_end s.head.shape l h)

  pub cand_room : (l : ℕ) → l < s.head.shape.layers → cand_off s.head.shape l + (dims_at s.head.shape l).size ≤ length s.cands
  cand_room l h = omega (arith, z.cands, cand_end s.head.shape l h)

  pub at-fits : (l : ℕ) → l < s.head.shape.layers → Fits (dims_at s.head.shape l) (layer_at s l)
  unfolding layer_at
  at-fits l h =
      record {
        cells = length_part (cell_off s.head.shape l) (rows_at s.head.shape l * cols_at s.head.shape l) s.counters (cell_room l h);
        norms = length_part (norm_off s.head.shape l) (rows_at s.head.shape l) s.norms (norm-room l h);
        cands = length_part (cand_off s.head.shape l) s.head.shape.heap_size s.cands (cand_room l h);
      }

  pub at-put-other : (l m : ℕ) (y : Layer) → l < s.head.shape.layers → m < s.head.shape.layers → m ≢ l → Fits (dims_at s.head.shape l) y → layer_at (put_layer s l y) m ≡ layer_at s m
  unfolding layer_at put_layer cell_off norm_off cand_off
  at-put-other l m y hl hm ne f = go (dec_lt m l)
    where
      sh : Shape
      sh = s.head.shape

      go : Dec (m < l) → layer_at (put_layer s l y) m ≡ layer_at s m
      go (yes q) =
          layer_path
          (put-before (cell_off sh l) (rows_at sh l * cols_at sh l) (cell_off sh m) (rows_at sh m * cols_at sh m) s.counters y.sketch.cells
          (off_step (λ i. (dims_at sh i).rows * (dims_at sh i).cols) m l q) (omega (arith, cell_room l hl)))
          (put-before (norm_off sh l) (rows_at sh l) (norm_off sh m) (rows_at sh m) s.norms y.sketch.norms (off_step (λ i. (dims_at sh i).rows) m l q) (omega (arith, norm-room l hl)))
          (put-before (cand_off sh l) sh.heap_size (cand_off sh m) sh.heap_size s.cands y.table.cands (off_step (λ i. (dims_at sh i).size) m l q) (omega (arith, cand_room l hl)))
          (get_or-set_other s.head.lens l m y.table.len 0 ne) (get_or-set_other s.head.flags l m y.flag false ne)
      go (no q) =
          layer_path
          (put-after (cell_off sh l) (rows_at sh l * cols_at sh l) (cell_off sh m) (rows_at sh m * cols_at sh m) s.counters y.sketch.cells
          (off_step (λ i. (dims_at sh i).rows * (dims_at sh i).cols) l m (omega arith)) (cell_room l hl) f.cells)
          (put-after (norm_off sh l) (rows_at sh l) (norm_off sh m) (rows_at sh m) s.norms y.sketch.norms (off_step (λ i. (dims_at sh i).rows) l m (omega arith)) (norm-room l hl) f.norms)
          (put-after (cand_off sh l) sh.heap_size (cand_off sh m) sh.heap_size s.cands y.table.cands (off_step (λ i. (dims_at sh i).size) l m (omega arith)) (cand_room l hl) f.cands)
          (get_or-set_other s.head.lens l m y.table.len 0 ne) (get_or-set_other s.head.flags l m y.flag false ne)

-- ---- a test that all of many layers pass

pub all-at : (p : ℕ → Layer → Bool) (k i : ℕ) (s : State) (l : ℕ) → i ≤ l → l < k + i → all_layers p k i s ≡ true → p l (layer_at s l) ≡ true
unfolding all_layers
all-at p zero i s l h q e = absurd (omega arith)
all-at p (suc k) i s l h q e = go (ℕ_discrete i l) (λ z. all-at p k (suc i) s l z (omega arith) (and_right (p i (layer_at s i)) (all_layers p k (suc i) s) e))
  where
    go : Dec (i ≡ l) → (suc i ≤ l → p l (layer_at s l) ≡ true) → p l (layer_at s l) ≡ true
    go (yes z) later = subst (λ (m : ℕ). p m (layer_at s m) ≡ true) z (and_left (p i (layer_at s i)) (all_layers p k (suc i) s) e)
    go (no z) later = later (omega (arith, z))

-- layers that are the same pass the same tests
pub all_same : (p : ℕ → Layer → Bool) (k i : ℕ) (s t : State) → ((m : ℕ) → i ≤ m → m < k + i → layer_at s m ≡ layer_at t m) → all_layers p k i s ≡ all_layers p k i t
unfolding all_layers
all_same p zero i s t h = refl
all_same p (suc k) i s t h =
    ap₂ (λ (y : Layer) (b : Bool). p i y && b) (h i (omega arith) (omega arith)) (all_same p k (suc i) s t (λ m q l. h m (omega arith) (omega arith)))

-- ---- a scan over layers
pub layers-step : (p : ℕ → Layer → Bool) (s : State) (k l : ℕ) → all_layers p (suc k) l s ≡ p l (layer_at s l) && all_layers p k (suc l) s
unfolding all_layers
layers-step p s k l = refl

pub layers_first : (p : ℕ → Layer → Bool) (s : State) (k l : ℕ) → 1 ≤ k → all_layers p k l s ≡ p l (layer_at s l) && all_layers p (k - 1) (l + 1) s
layers_first p s k l h =
    let e : k ≡ suc (k - 1) = omega arith in
    ap (λ (n : ℕ). all_layers p n l s) e ∙ layers-step p s (k - 1) l ∙ ap (λ (n : ℕ). p l (layer_at s l) && all_layers p (k - 1) n s) (sym (add-one l))

pub layers-none : (p : ℕ → Layer → Bool) (s : State) (l : ℕ) → all_layers p 0 l s ≡ true
unfolding all_layers
layers-none p s l = refl
