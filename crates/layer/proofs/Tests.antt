-- The tests of a layer, by the slices that they read. Assumes nothing.
use mathlib.Core.Path.{◌≡◌, refl, sym, ap, ap₂, ◌∙◌}
use mathlib.Core.Bool.{Bool, true, false, and-false, ◌&&◌}
use mathlib.Core.List.{List}
use Prim.Native.Nat.{ℕ, zero, suc, ◌+◌, ◌*◌, ◌<◌}
use native.Mathlib.Omega.{arith}
use native.Mathlib.Decide.{ℕ_discrete}
use lib.ListN.{length, get_or, set, take}
use lib.Seq.{get_or-set_same, get_or-set_other}
use lib.IntN.{ℤ, pos, ◌+ℤ◌}
use Rattle.words.specs.Num.{all_in, in_range}
use Rattle.words.proofs.Bools.{and_left, and_right, both}
use Rattle.countsketch_l2_norm.specs.Sketch.{Sketch, cell_of, cell_at, cell_read, cell_fits, add_cell, rows_read, rows_fit}
use Rattle.countsketch_l2_norm.specs.inner.Needs.{sketch_of, rows_ready}
use Rattle.countsketch_l2_norm.specs.Estimate.{cells_in_range}
use Rattle.countsketch_l2_norm.proofs.Places.{place-lt}
use Rattle.heap_moves.specs.declared.Item.{Item}
use Rattle.heap_moves.proofs.Rounds.{counts-cands}
use Rattle.layer.specs.declared.Dims.{Dims}
use Rattle.layer.specs.Layer.{hash_by, add_reads, add_fits, layer_update}
use Rattle.layer.specs.inner.Needs.{layer_of, delta}
use Rattle.layer.specs.Delta.{delta_reads}

-- ---- an update

pub reads_are : (d : Dims) (item : Item) (w : ℕ) (xs : List ℤ) (ws es : List ℕ) (ns : List ℤ) (len : ℕ) (flag : Bool)
    → add_reads d (layer_update item w) (layer_of d xs ws es ns len flag) ≡ rows_read d.cols (hash_by item) (sketch_of xs ws d.rows) d.rows 0 && all_in (take len ns)
unfolding add_reads
reads_are d item w xs ws es ns len flag = ap (λ (l : List ℤ). rows_read d.cols (hash_by item) (sketch_of xs ws d.rows) d.rows 0 && all_in (take len l)) (counts-cands es ns)

pub fits_are : (d : Dims) (item : Item) (w : ℕ) (xs : List ℤ) (ws es : List ℕ) (ns : List ℤ) (len : ℕ) (flag : Bool)
    → add_fits d (layer_update item w) (layer_of d xs ws es ns len flag) ≡ rows_fit d.cols (hash_by item) w xs d.rows 0
unfolding add_fits
fits_are d item w xs ws es ns len flag = refl

-- the order of three tests
and-turn : (a b c : Bool) → a && b && c ≡ a && c && b
and-turn true true true = refl
and-turn true true false = refl
and-turn true false true = refl
and-turn true false false = refl
and-turn false b c = refl

pub ready_are : (d : Dims) (item : Item) (w : ℕ) (xs : List ℤ) (ws es : List ℕ) (ns : List ℤ) (len : ℕ) (flag : Bool)
    → rows_ready d.cols (hash_by item) w (sketch_of xs ws d.rows) d.rows 0 && all_in (take len ns)
    ≡ add_reads d (layer_update item w) (layer_of d xs ws es ns len flag) && add_fits d (layer_update item w) (layer_of d xs ws es ns len flag)
ready_are d item w xs ws es ns len flag =
    rw (reads_are d item w xs ws es ns len flag, fits_are d item w xs ws es ns len flag)
    (and-turn (rows_read d.cols (hash_by item) (sketch_of xs ws d.rows) d.rows 0) (rows_fit d.cols (hash_by item) w xs d.rows 0) (all_in (take len ns)))

-- what the tests come to where the counts are out of range, and where they are not
pub ready_by : (d : Dims) (item : Item) (w : ℕ) (xs : List ℤ) (ws es : List ℕ) (ns : List ℤ) (len : ℕ) (flag r n : Bool)
    → r ≡ rows_ready d.cols (hash_by item) w (sketch_of xs ws d.rows) d.rows 0 → n ≡ all_in (take len ns)
    → r && n ≡ add_reads d (layer_update item w) (layer_of d xs ws es ns len flag) && add_fits d (layer_update item w) (layer_of d xs ws es ns len flag)
ready_by d item w xs ws es ns len flag r n p q = ap₂ (λ (a b : Bool). a && b) p q ∙ ready_are d item w xs ws es ns len flag

pub unready_by : (d : Dims) (item : Item) (w : ℕ) (xs : List ℤ) (ws es : List ℕ) (ns : List ℤ) (len : ℕ) (flag : Bool) → false ≡ all_in (take len ns)
    → false ≡ add_reads d (layer_update item w) (layer_of d xs ws es ns len flag) && add_fits d (layer_update item w) (layer_of d xs ws es ns len flag)
unready_by d item w xs ws es ns len flag q =
    sym (and-false (rows_ready d.cols (hash_by item) w (sketch_of xs ws d.rows) d.rows 0)) ∙ ready_by d item w xs ws es ns len flag _ false refl q

-- ---- a delta

pub delta_reads_are : (d : Dims) (row col : ℕ) (n : ℤ) (item : Item) (every : Bool) (xs : List ℤ) (ws es : List ℕ) (ns : List ℤ) (len : ℕ) (flag : Bool)
    → delta_reads d (delta row col n item every) (layer_of d xs ws es ns len flag)
    ≡ cell_read d.cols (row * d.cols + col) row (sketch_of xs ws d.rows) && cells_in_range d.cols (hash_by item) xs d.rows 0 && all_in (take len ns)
unfolding delta_reads
delta_reads_are d row col n item every xs ws es ns len flag =
    ap (λ (l : List ℤ). cell_read d.cols (row * d.cols + col) row (sketch_of xs ws d.rows) && cells_in_range d.cols (hash_by item) xs d.rows 0 && all_in (take len l)) (counts-cands es ns)

-- the counters that a hash names stay in range where one counter is set to a value in range
pub cells-set : (cols h : ℕ) (xs : List ℤ) (at : ℕ) (v : ℤ) (k r : ℕ) → at < length xs → in_range v ≡ true → cells_in_range cols h xs k r ≡ true → cells_in_range cols h (set xs at v) k r ≡ true
unfolding cells_in_range
cells-set cols h xs at v zero r l p e = refl
cells-set cols h xs at v (suc k) r l p e =
    both (go (ℕ_discrete (cell_of cols h r) at)) (cells-set cols h xs at v k (suc r) l p (and_right (in_range (cell_at xs (cell_of cols h r))) (cells_in_range cols h xs k (suc r)) e))
  where
    go : Dec (cell_of cols h r ≡ at) → in_range (cell_at (set xs at v) (cell_of cols h r)) ≡ true
    go (yes q) = ap (λ (i : ℕ). in_range (get_or (set xs at v) i (pos 0))) q ∙ ap in_range (get_or-set_same xs at v (pos 0) l) ∙ p
    go (no q) = ap in_range (get_or-set_other xs at (cell_of cols h r) v (pos 0) q) ∙ and_left (in_range (cell_at xs (cell_of cols h r))) (cells_in_range cols h xs k (suc r)) e

-- so they do after a delta on a counter, which stays in range
pub delta-counted : (d : Dims) (row col : ℕ) (n : ℤ) (item : Item) (xs ys : List ℤ) (ws vs : List ℕ)
    → sketch_of ys vs d.rows ≡ add_cell (row * d.cols + col) row n (sketch_of xs ws d.rows) → row < d.rows → col < d.cols → length xs ≡ d.rows * d.cols
    → cell_fits (row * d.cols + col) n xs ≡ true → cells_in_range d.cols (hash_by item) xs d.rows 0 ≡ true → cells_in_range d.cols (hash_by item) ys d.rows 0 ≡ true
unfolding add_cell
delta-counted d row col n item xs ys ws vs e below inside long fit read =
    let at = row * d.cols + col in
    let v = cell_at xs at +ℤ n in
    let cells : ys ≡ set xs at v = ap (λ (s : Sketch). s.cells) e in
    rw cells (cells-set d.cols (hash_by item) xs at v d.rows 0 (place-lt d.rows d.cols row col (length xs) below inside (omega arith)) fit read)
