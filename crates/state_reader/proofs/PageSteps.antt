-- A layer's lines, part by part, and its candidates with zeros behind them. Assumes nothing.
use mathlib.Core.Path.{◌≡◌, refl, sym, ap, subst, ◌∙◌}
use mathlib.Core.Bool.{Bool, true, false}
use mathlib.Core.List.{List, append-nil}
use Prim.Native.Nat.{ℕ, zero, suc, ◌+◌, ◌-◌, ◌*◌, ◌≤◌}
use native.Mathlib.Omega.{arith}
use lib.IntN.{ℤ, pos}
use lib.ListN.{length, drop, replicate, length-replicate, drop_of_length-le}
use lib.Seq.{sets, sets-eq}
use Rattle.text.specs.Decimals.{Word}
use Rattle.countsketch_l2_norm.specs.Norms.{norms_of}
use Rattle.countsketch_l2_norm.specs.Merge.{row_norms}
use Rattle.heap_moves.specs.Cands.{Cand, no_cand}
use Rattle.heap_moves.specs.Flat.{cands_of}
use Rattle.heap.specs.inner.Slices.{table_of}
use Rattle.layer.specs.declared.Dims.{Dims}
use Rattle.layer.specs.inner.Needs.{layer_of}
use Rattle.layer.proofs.Gathers.{zero-cands}
use Rattle.layout.proofs.States.{layer_path}
use Rattle.state_check.specs.Check.{seats_ok}
use Rattle.state_forms.specs.Formats.{Got, got, bad, then_read}
use Rattle.state_forms.specs.Sparse.{sparse_r}
use Rattle.state_forms.specs.Grammar.{Page, row_listing, join_rows, keys_r, flag_format, page_format}
use Rattle.state_lines.specs.inner.Places.{forget}
use Rattle.state_forms.proofs.Exactness.{never_got, got_value, got_left}
use Rattle.state_forms.proofs.Lines.{keys-exact, page_exact}
use Rattle.state_text.specs.Pages.{table_from, layer_from, frame_of}
use Rattle.state_text.proofs.PageLaws.{page_whole}
use Rattle.state_reader.specs.inner.Paged.{paged}

-- ---- a layer

module _ (d : Dims) (l : ℕ) (s : List ℕ) where
  pub page_0 : (flag_format l).read s ≡ bad → (page_format (frame_of d) l).read s ≡ bad
  unfolding then_read
  page_0 e0 = rw e0

  pub page_1 : {f : Bool} {t : List ℕ} → (flag_format l).read s ≡ got f t → sparse_r (row_listing l d.cols) (suc d.rows) 0 d.rows t ≡ bad → (page_format (frame_of d) l).read s ≡ bad
  unfolding then_read
  page_1 e0 e1 = rw (e0, e1)

  pub page_2 : {f : Bool} {rs : List (List ℤ)} {t u : List ℕ} → (flag_format l).read s ≡ got f t → sparse_r (row_listing l d.cols) (suc d.rows) 0 d.rows t ≡ got rs u → keys_r l d.size u ≡ bad → (page_format (frame_of d) l).read s ≡ bad
  unfolding then_read
  page_2 e0 e1 e2 = rw (e0, e1, e2)

  module _ {f : Bool} {rs : List (List ℤ)} {cs : List Cand} {t u v : List ℕ} (e0 : (flag_format l).read s ≡ got f t) (e1 : sparse_r (row_listing l d.cols) (suc d.rows) 0 d.rows t ≡ got rs u) (e2 : keys_r l d.size u ≡ got cs v) where
    pub page_3 : seats_ok (table_from d.size cs) d.size 0 ≡ false → (page_format (frame_of d) l).read s ≡ bad
    unfolding then_read
    page_3 e3 = rw (e0, e1, e2, e3)

    pub page_4 : seats_ok (table_from d.size cs) d.size 0 ≡ true → (page_format (frame_of d) l).read s ≡ got (record { flag = f; rows = rs; keys = cs }) v
    unfolding then_read
    page_4 e3 = rw (e0, e1, e2, e3)

-- what is answered where a reading fails, and where it gives a page
pub page_refused : (g : Got Page) (X : Page → Type 0) → g ≡ bad → (bad ≡ paged g) × ((p : Page) (t : List ℕ) → g ≡ got p t → X p)
unfolding paged
page_refused g X e = (sym (ap paged e), λ p t q. absurd (never_got (sym e ∙ q)))

pub page_given : (g : Got Page) (X : Page → Type 0) (p : Page) (n : ℕ) (v : List ℕ) → g ≡ got p v → n ≡ length p.keys → X p → (got (p.flag, n) v ≡ paged g) × ((q : Page) (t : List ℕ) → g ≡ got q t → X q)
unfolding paged
page_given g X p n v e k x = (rw k (sym (ap paged e)), λ q t r. subst X (got_value (sym e ∙ r)) x)

pub forget-paged : (g : Got Page) → forget (paged g) ≡ forget g
unfolding forget paged
forget-paged (got p t) = refl
forget-paged bad = refl

-- ---- candidates with zeros behind them

pub cands-zero : (size : ℕ) (es₀ es : List ℕ) (ns₀ ns : List ℤ) → es ≡ replicate (length es₀) 0 → ns ≡ replicate (length ns₀) (pos 0) → length es₀ ≡ 4 * size → length ns₀ ≡ size → cands_of es ns ≡ replicate size no_cand
cands-zero size es₀ es ns₀ ns p q a b = rw (p, q, a, b) (zero-cands size)

drop-replicate : {A : Type 0} (n m : ℕ) (x : A) → drop n (replicate m x) ≡ replicate (m - n) x
drop-replicate zero m x = let z : m - 0 ≡ m = omega arith in rw z
drop-replicate (suc n) zero x = let z : 0 - suc n ≡ 0 = omega arith in rw z
drop-replicate (suc n) (suc m) x = let z : suc m - suc n ≡ m - n = omega arith in rw z (drop-replicate n m x)

pub sets_all : {A : Type 0} (xs ys : List A) → length ys ≡ length xs → sets xs 0 ys ≡ ys
sets_all xs ys e =
    let z : 0 + length ys ≡ length xs = omega arith in
    sets-eq ys xs 0 (omega arith) ∙ rw (z, drop_of_length-le xs {i = length xs} (omega arith)) (append-nil ys)

pub keys-few : (l size : ℕ) (s : List ℕ) (cs : List Cand) (t : List ℕ) → Word l → keys_r l size s ≡ got cs t → length cs ≤ size
keys-few l size s cs t w e = ((keys-exact l w size).sound s cs t e).0.0

pub keys_kept : (size : ℕ) (cs before after : List Cand) → length cs ≤ size → before ≡ replicate size no_cand → after ≡ sets before 0 cs → after ≡ (table_from size cs).cands
keys_kept size cs before after h e q =
    let k = length-replicate size no_cand in
    let z : 0 + length cs ≡ length cs = omega arith in
    q ∙ ap (λ (b : List Cand). sets b 0 cs) e ∙ sets-eq cs (replicate size no_cand) 0 (omega (arith, k, h)) ∙ rw (z, drop-replicate (length cs) size no_cand)

pub seats_are : (size n : ℕ) (cs : List Cand) (es : List ℕ) (ns : List ℤ) (b : Bool) → cands_of es ns ≡ (table_from size cs).cands → n ≡ length cs → b ≡ seats_ok (table_of es ns n) size 0 → seats_ok (table_from size cs) size 0 ≡ b
seats_are size n cs es ns b p q e = sym (e ∙ (λ i. seats_ok (record { cands = p i; len = q i }) size 0))

-- ---- the layer that the slices are

module _ (d : Dims) (l : ℕ) (s : List ℕ) (p : Page) (t : List ℕ) (w : Word l) (c : Word d.cols) (r : Word d.rows) (e : (page_format (frame_of d) l).read s ≡ got p t) where
  pub page_in : (page_format (frame_of d) l).In p
  page_in = ((page_exact (frame_of d) c r l w).sound s p t e).0

  pub page_fills : (xs₀ xs : List ℤ) (ws : List ℕ) (es : List ℕ) (ns : List ℤ) → length xs₀ ≡ d.rows * d.cols
      → (xs ≡ sets xs₀ 0 (join_rows p.rows)) × (cands_of es ns ≡ (table_from d.size p.keys).cands) → norms_of ws d.rows ≡ row_norms d.cols xs d.rows 0
      → layer_of d xs ws es ns (length p.keys) p.flag ≡ layer_from d p
  page_fills xs₀ xs ws es ns h g n =
      let k : xs ≡ join_rows p.rows = g.0 ∙ sets_all xs₀ (join_rows p.rows) ((page_whole d l p page_in).fits.cells ∙ sym h) in
      layer_path k (n ∙ ap (λ (z : List ℤ). row_norms d.cols z d.rows 0) k) g.1 refl refl

-- ---- what an answer says of a page

pub page_answer : (g : Got Page) (f : Bool) (n : ℕ) (u : List ℕ) → got (f, n) u ≡ paged g → (p : Page) (t : List ℕ) → g ≡ got p t → (f ≡ p.flag) × ((n ≡ length p.keys) × (u ≡ t))
unfolding paged
page_answer g f n u e p t q =
    let h : ◌≡◌ {A = Got (Bool × ℕ)} (got (f, n) u) (got (p.flag, length p.keys) t) = e ∙ ap paged q in
    (ap (λ (x : Bool × ℕ). x.0) (got_value h), (ap (λ (x : Bool × ℕ). x.1) (got_value h), got_left h))

pub page_never : (g : Got Page) → bad ≡ paged g → (p : Page) (t : List ℕ) → g ≡ got p t → ⊥
unfolding paged
page_never g e p t q = never_got (e ∙ ap paged q)

pub forget_is : (g : Got Page) (f : Bool) (n : ℕ) (u : List ℕ) → got (f, n) u ≡ paged g → got tt u ≡ forget g
unfolding forget
forget_is g f n u e = ap forget e ∙ forget-paged g

pub forget_bad : (g : Got Page) → bad ≡ paged g → bad ≡ forget g
unfolding forget
forget_bad g e = ap forget e ∙ forget-paged g
