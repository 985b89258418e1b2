-- A layer of a state, and the layer that stands in the parts of its slices. Assumes nothing.
use mathlib.Core.Path.{◌≡◌, refl, sym, ap, ap₂, ◌∙◌, subst}
use mathlib.Core.Bool.{Bool, false}
use mathlib.Core.List.{List}
use Prim.Native.Nat.{ℕ, ◌+◌, ◌-◌, ◌*◌, ◌≤◌, ◌<◌}
use native.Mathlib.Omega.{arith}
use native.Mathlib.Decide.{dec_lt}
use lib.ListN.{length, get_or}
use lib.Seq.{ext_get_or}
use lib.IntN.{ℤ}
use Rattle.words.specs.Parts.{part, put_part}
use Rattle.words.specs.Wide.{two_words}
use Rattle.words.proofs.Parts.{length_part, length-put, part_at, put-at-before, put-at_in, put-at-after}
use Rattle.countsketch_l2_norm.specs.Norms.{norms_of, norm_at}
use Rattle.countsketch_l2_norm.proofs.Norms.{length-norms, norm-at}
use Rattle.heap_moves.specs.Flat.{cands_of}
use Rattle.heap_moves.proofs.Rounds.{entries_are, counts_are}
use Rattle.heap_moves.proofs.Parts.{cands-part, cands-put}
use Rattle.header.specs.declared.Shape.{Shape}
use Rattle.header.specs.Header.{with_layer}
use Rattle.layer.specs.declared.Dims.{Dims}
use Rattle.layer.specs.Layer.{Layer}
use Rattle.layer.specs.inner.Needs.{layer_of, Housed}
use Rattle.layout.specs.State.{dims_at, cell_off, norm_off, cand_off, layer_at, put_layer}
use Rattle.layout.specs.Slices.{Lent, lent, norms_in, view}
use Rattle.layout.specs.inner.Needs.{Sizes, Standing}
use Rattle.layout.proofs.Offsets.{norm_end, shaped-at}
use Rattle.layout.proofs.Pieces.{cells-long, norms-long, seats-long}

-- ---- norms of a part

norm-shift : (a i : ℕ) (ws : List ℕ) → two_words (get_or ws (2 * a + 2 * i) 0) (get_or ws (2 * a + (2 * i + 1)) 0) ≡ norm_at ws (a + i)
norm-shift a i ws = ap₂ (λ (p q : ℕ). two_words (get_or ws p 0) (get_or ws q 0)) p_is q_is
  where
    p_is : 2 * a + 2 * i ≡ 2 * (a + i)
    p_is = omega arith

    q_is : 2 * a + (2 * i + 1) ≡ 2 * (a + i) + 1
    q_is = omega arith

pub norms-part : (a n m : ℕ) (ws : List ℕ) → a + n ≤ m → norms_of (part (2 * a) (2 * n) ws) n ≡ part a n (norms_of ws m)
norms-part a n m ws h =
    ext_get_or 0 (norms_of (part (2 * a) (2 * n) ws) n) (part a n (norms_of ws m)) (length-norms (part (2 * a) (2 * n) ws) n ∙ sym long) (λ i k. one i (subst (λ (z : ℕ). i < z) (length-norms (part (2 * a) (2 * n) ws) n) k))
  where
    long : length (part a n (norms_of ws m)) ≡ n
    long = length_part a n (norms_of ws m) (omega (arith, length-norms ws m))

    one : (i : ℕ) → i < n → get_or (norms_of (part (2 * a) (2 * n) ws) n) i 0 ≡ get_or (part a n (norms_of ws m)) i 0
    one i k =
        norm-at (part (2 * a) (2 * n) ws) n i k
        ∙ ap₂ two_words (part_at (2 * a) (2 * n) (2 * i) ws 0 (omega arith)) (part_at (2 * a) (2 * n) (2 * i + 1) ws 0 (omega arith))
        ∙ norm-shift a i ws ∙ sym (part_at a n i (norms_of ws m) 0 k ∙ norm-at ws m (a + i) (omega arith))

-- and after the part has come back with other words
pub norms-put : (a n m : ℕ) (ws vs : List ℕ) → length ws ≡ 2 * m → a + n ≤ m → length vs ≡ 2 * n → norms_of (put_part (2 * a) (2 * n) ws vs) m ≡ put_part a n (norms_of ws m) (norms_of vs n)
norms-put a n m ws vs lw h lv =
    ext_get_or 0 (norms_of put m) (put_part a n (norms_of ws m) (norms_of vs n)) (length-norms put m ∙ sym long) (λ i k. one i (subst (λ (z : ℕ). i < z) (length-norms put m) k) (dec_lt i a) (dec_lt i (a + n)))
  where
    put : List ℕ
    put = put_part (2 * a) (2 * n) ws vs

    long : length (put_part a n (norms_of ws m) (norms_of vs n)) ≡ m
    long = length-put a n (norms_of ws m) (norms_of vs n) (omega (arith, length-norms ws m)) (length-norms vs n) ∙ length-norms ws m

    one : (i : ℕ) → i < m → Dec (i < a) → Dec (i < a + n) → get_or (norms_of put m) i 0 ≡ get_or (put_part a n (norms_of ws m) (norms_of vs n)) i 0
    one i k (yes p) q =
        norm-at put m i k
        ∙ ap₂ two_words (put-at-before (2 * a) (2 * n) (2 * i) ws vs 0 (omega arith) (omega arith)) (put-at-before (2 * a) (2 * n) (2 * i + 1) ws vs 0 (omega arith) (omega arith))
        ∙ sym (put-at-before a n i (norms_of ws m) (norms_of vs n) 0 p (omega (arith, length-norms ws m)) ∙ norm-at ws m i k)
    one i k (no p) (yes q) =
        let j = i - a in
        let e : i ≡ a + j = omega arith in
        let x : 2 * i ≡ 2 * a + 2 * j = omega arith in
        let y : 2 * i + 1 ≡ 2 * a + (2 * j + 1) = omega arith in
        norm-at put m i k
        ∙ ap₂ two_words
        (ap (λ (z : ℕ). get_or put z 0) x ∙ put-at_in (2 * a) (2 * n) (2 * j) ws vs 0 (omega arith) (omega arith) lv)
        (ap (λ (z : ℕ). get_or put z 0) y ∙ put-at_in (2 * a) (2 * n) (2 * j + 1) ws vs 0 (omega arith) (omega arith) lv)
        ∙ sym (ap (λ (z : ℕ). get_or (put_part a n (norms_of ws m) (norms_of vs n)) z 0) e ∙ put-at_in a n j (norms_of ws m) (norms_of vs n) 0 (omega arith) (omega (arith, length-norms ws m)) (length-norms vs n)
        ∙ norm-at vs n j (omega arith))
    one i k (no p) (no q) =
        norm-at put m i k
        ∙ ap₂ two_words (put-at-after (2 * a) (2 * n) (2 * i) ws vs 0 (omega arith) (omega arith) lv) (put-at-after (2 * a) (2 * n) (2 * i + 1) ws vs 0 (omega arith) (omega arith) lv)
        ∙ sym (put-at-after a n i (norms_of ws m) (norms_of vs n) 0 (omega arith) (omega (arith, length-norms ws m)) (length-norms vs n) ∙ norm-at ws m i k)

-- ---- a layer of a lent state

abbrev pub shape_by : Lent → Shape
shape_by r = r.head.shape

-- the layer in the parts of the slices, where a shape says that they stand
abbrev pub layer_by : Shape → Lent → ℕ → Layer
layer_by sh r l =
    let d : Dims = dims_at sh l in
    layer_of d (part (cell_off sh l) (d.rows * d.cols) r.counters) (part (2 * norm_off sh l) (2 * d.rows) r.norms)
    (part (4 * cand_off sh l) (4 * d.size) r.entries) (part (cand_off sh l) d.size r.counts) (get_or r.head.lens l 0) (get_or r.head.flags l false)

abbrev pub layer_here : Lent → ℕ → Layer
layer_here r l = layer_by (shape_by r) r l

module _ (r : Lent) (z : Sizes (shape_by r) (length r.counters) (length r.norms) (length r.entries) (length r.counts)) (l : ℕ) (h : l < (shape_by r).layers) where
  four : length r.entries ≡ 4 * length r.counts
  four = z.entries ∙ ap (λ (n : ℕ). 4 * n) (sym z.counts)

  pub layer-view : layer_at (view r) l ≡ layer_here r l
  unfolding layer_at view
  layer-view =
      let d : Dims = dims_at (shape_by r) l in
      let p = sym (norms-part (norm_off (shape_by r) l) d.rows (norms_in (shape_by r)) r.norms (norm_end (shape_by r) l h)) in
      let q = sym (cands-part (cand_off (shape_by r) l) d.size r.entries r.counts four) in
      λ i. record {
        sketch = record { cells = part (cell_off (shape_by r) l) (d.rows * d.cols) r.counters; norms = p i };
        table = record { cands = q i; len = get_or r.head.lens l 0 };
        flag = get_or r.head.flags l false;
      }

  -- other parts put in place are another layer put in place
  pub put_view : (xs : List ℤ) (ws es : List ℕ) (ns : List ℤ) (len : ℕ) (flag : Bool) (y : Layer)
      → length ws ≡ 2 * (dims_at (shape_by r) l).rows → length es ≡ 4 * length ns
      → layer_of (dims_at (shape_by r) l) xs ws es ns len flag ≡ y
      → view (lent (with_layer r.head l len flag) (put_part (cell_off (shape_by r) l) ((dims_at (shape_by r) l).rows * (dims_at (shape_by r) l).cols) r.counters xs)
      (put_part (2 * norm_off (shape_by r) l) (2 * (dims_at (shape_by r) l).rows) r.norms ws) (put_part (4 * cand_off (shape_by r) l) (4 * (dims_at (shape_by r) l).size) r.entries es)
      (put_part (cand_off (shape_by r) l) (dims_at (shape_by r) l).size r.counts ns))
      ≡ put_layer (view r) l y
  unfolding put_layer view
  put_view xs ws es ns len flag y lw le e = whole ∙ ap (put_layer (view r) l) e
    where
      d : Dims
      d = dims_at (shape_by r) l

      p : norms_of (put_part (2 * norm_off (shape_by r) l) (2 * d.rows) r.norms ws) (norms_in (shape_by r)) ≡ put_part (norm_off (shape_by r) l) d.rows (norms_of r.norms (norms_in (shape_by r))) (norms_of ws d.rows)
      p = norms-put (norm_off (shape_by r) l) d.rows (norms_in (shape_by r)) r.norms ws z.norms (norm_end (shape_by r) l h) lw

      q : cands_of (put_part (4 * cand_off (shape_by r) l) (4 * d.size) r.entries es) (put_part (cand_off (shape_by r) l) d.size r.counts ns)
          ≡ put_part (cand_off (shape_by r) l) d.size (cands_of r.entries r.counts) (cands_of es ns)
      q =
          ap₂ cands_of
          (ap (put_part (4 * cand_off (shape_by r) l) (4 * d.size) r.entries) (entries_are es ns (cands_of es ns) le refl))
          (ap (put_part (cand_off (shape_by r) l) d.size r.counts) (counts_are es ns (cands_of es ns) refl))
          ∙ cands-put (cand_off (shape_by r) l) d.size r.entries r.counts (cands_of es ns) four

      whole : view (lent (with_layer r.head l len flag) (put_part (cell_off (shape_by r) l) (d.rows * d.cols) r.counters xs) (put_part (2 * norm_off (shape_by r) l) (2 * d.rows) r.norms ws)
          (put_part (4 * cand_off (shape_by r) l) (4 * d.size) r.entries es) (put_part (cand_off (shape_by r) l) d.size r.counts ns)) ≡ put_layer (view r) l (layer_of d xs ws es ns len flag)
      whole = λ i. record { head = with_layer r.head l len flag; counters = put_part (cell_off (shape_by r) l) (d.rows * d.cols) r.counters xs; norms = p i; cands = q i }

-- the parts are as long as the functions on one layer ask
pub housed_here : (r : Lent) → Standing r → (l : ℕ) → l < (shape_by r).layers → let d = dims_at (shape_by r) l in
    Housed d (length (part (cell_off (shape_by r) l) (d.rows * d.cols) r.counters)) (length (part (2 * norm_off (shape_by r) l) (2 * d.rows) r.norms))
    (length (part (cand_off (shape_by r) l) d.size r.counts)) (get_or r.head.lens l 0)
housed_here r z l h =
    record {
      shaped = shaped-at (shape_by r) z.accepted l;
      cells = cells-long (shape_by r) l h r.counters z.sizes.cells;
      norms = norms-long (shape_by r) l h r.norms z.sizes.norms;
      seats = seats-long (shape_by r) l h r.counts z.sizes.counts;
      some = z.accepted.seats;
      few = z.accepted.small;
      used = z.lens l h;
    }
