-- The header's own steps: flags, lengths, the tests of a weight. Assumes nothing.
use mathlib.Core.Path.{◌≡◌, refl, sym, ap, ◌∙◌}
use mathlib.Core.Bool.{Bool, true, false, cond, not, and-false, ◌&&◌}
use mathlib.Core.List.{List}
use Prim.Native.Nat.{ℕ, zero, suc, ◌+◌, ◌≤◌, ◌<◌}
use native.Mathlib.Omega.{arith}
use native.Mathlib.Nat.{zero-add}
use borrow.Author.Tests.{leb-true, lt-ltb, le-ltb, eq-eqb, ne_eqb, not-false}
use lib.ListN.{get_or, set}
use lib.Seq.{set-get_or}
use lib.IntN.{ℤ, nat_abs}
use lib.Dec.{eqb, leb}
use Rattle.words.specs.Num.{top}
use Rattle.words.specs.Tests.{number}
use Rattle.words.proofs.Bools.{and-true}
use Rattle.words.proofs.Tests.{number_off, off_number}
use Rattle.header.proofs.Sweeps.{and_assoc}
use Rattle.header.specs.Header.{with_totals, with_mode, with_flags, with_lens, with_layer, head_of, scalars_of, begun, begun_scalars, begin_tests, begin_of, begin_header, length_ok, lens_from}
use Rattle.header.specs.Totals.{update_totals, totals_tests}
use Rattle.header.specs.declared.Shape.{Shape}
use Rattle.header.specs.declared.Header.{Header}
use Rattle.header.specs.declared.Scalars.{Scalars}
use Rattle.header.specs.Answers.{AnsweredLent}
use Rattle.header.specs.Answers.{Answered}
use Rattle.header.specs.declared.Mode.{Mode}

-- ---- an update begins, with and without lengths and flags

module _ (f : Scalars) (w : ℤ) (m : Mode) where
  abbrev tests : List (Bool × ℕ)
  tests = begin_tests f w m

  -- the shape stays
  pub begin-shape : (begin_of f w m).scalars.shape ≡ f.shape
  unfolding begin_of
  begin-shape = go (eqb (number tests) 0)
    where
      go : (b : Bool) → (cond b (begun_scalars f (update_totals (nat_abs w)) m) f).shape ≡ f.shape
      go true = refl
      go false = refl

  -- an accepted one has the totals added and the mode joined
  pub begun_is : (b : AnsweredLent) → b ≡ begin_of f w m → b.refusal ≡ 0 → b.scalars ≡ begun_scalars f (update_totals (nat_abs w)) m
  unfolding begin_of
  begun_is b e n = ap (λ (a : AnsweredLent). a.scalars) e ∙ rw (eq-eqb (number tests) 0 (sym (ap (λ (a : AnsweredLent). a.refusal) e) ∙ n))

  -- and a weight of at most 2^52
  pub begin-light : number tests ≡ 0 → nat_abs w ≤ top
  begin-light z = let l = leb-true (f.totals.weight + nat_abs w) top (not-false _ (off_number tests refl z).1.1.0) in omega (arith, l)

  -- a refused one changes nothing
  pub begin-kept : (number tests ≡ 0 → ⊥) → (begin_of f w m).scalars ≡ f
  unfolding begin_of
  begin-kept n = rw (ne_eqb (number tests) 0 n)

  pub begin-number : (begin_of f w m).refusal ≡ number tests
  unfolding begin_of
  begin-number = refl

  -- the totals may be added
  pub begin-sum : number tests ≡ 0 → number (totals_tests f.totals (update_totals (nat_abs w))) ≡ 0
  begin-sum z = number_off (totals_tests f.totals (update_totals (nat_abs w))) (off_number tests refl z).1.1

  -- what the code answers
  pub begin-refused : (n : ℕ) → n ≡ number tests → (n ≡ 0 → ⊥) → record { refusal = n; scalars = f } ≡ begin_of f w m
  unfolding begin_of
  begin-refused n e h = rw (ne_eqb (number tests) 0 (λ z. h (e ∙ z))) (ap (λ (k : ℕ). record { refusal = k; scalars = f }) e)

  pub begin_done : number tests ≡ 0 → record { refusal = 0; scalars = begun_scalars f (update_totals (nat_abs w)) m } ≡ begin_of f w m
  unfolding begin_of
  begin_done z = rw z

module _ (h : Header) (w : ℤ) (m : Mode) where
  -- the same of a header
  pub header_begun : (a : Answered) → a ≡ begin_header h w m → a.refusal ≡ 0 → a.header ≡ begun h (update_totals (nat_abs w)) m
  unfolding begin_header
  header_begun a e n =
      ap (λ (b : Answered). b.header) e
      ∙ ap (λ (f : Scalars). head_of f h.lens h.flags) (begun_is (scalars_of h) w m (begin_of (scalars_of h) w m) refl (sym (ap (λ (b : Answered). b.refusal) e) ∙ n))

  pub header_kept : (number (begin_tests (scalars_of h) w m) ≡ 0 → ⊥) → (begin_header h w m).header ≡ h
  unfolding begin_header
  header_kept n = ap (λ (f : Scalars). head_of f h.lens h.flags) (begin-kept (scalars_of h) w m n)

  pub header_number : (begin_header h w m).refusal ≡ number (begin_tests (scalars_of h) w m)
  unfolding begin_header begin_of
  header_number = refl

  -- the header with the totals and the mode that were answered
  abbrev pub beginning : AnsweredLent → Answered
  beginning b = record { refusal = b.refusal; header = with_mode (with_totals h b.scalars.totals) b.scalars.mode }

  pub header_begins : (b : AnsweredLent) → b ≡ begin_of (scalars_of h) w m → beginning b ≡ begin_header h w m
  unfolding begin_header
  header_begins b e = ap beginning e ∙ ap shaped (sym (begin-shape (scalars_of h) w m))
    where
      shaped : Shape → Answered
      shaped sh =
          let f : Scalars = (begin_of (scalars_of h) w m).scalars in
          record { refusal = (begin_of (scalars_of h) w m).refusal; header = record { shape = sh; totals = f.totals; mode = f.mode; flags = h.flags; lens = h.lens } }

-- ---- a layer's flag and length

pub flag-kept : (fs : List Bool) (l : ℕ) (b : Bool) → b ≡ true → fs ≡ set fs l (get_or fs l false && b)
flag-kept fs l b e = sym (ap (set fs l) (ap (λ (x : Bool). get_or fs l false && x) e ∙ and-true (get_or fs l false)) ∙ set-get_or fs l false)

pub flag_lost : (fs : List Bool) (l : ℕ) (b : Bool) → b ≡ false → set fs l false ≡ set fs l (get_or fs l false && b)
flag_lost fs l b e = sym (ap (set fs l) (ap (λ (x : Bool). get_or fs l false && x) e ∙ and-false (get_or fs l false)))

pub touched-kept : (h : Header) (l n : ℕ) (b : Bool) → b ≡ true → with_lens h (set h.lens l n) ≡ with_layer h l n (get_or h.flags l false && b)
touched-kept h l n b e = ap (λ (fs : List Bool). with_lens (with_flags h fs) (set h.lens l n)) (flag-kept h.flags l b e)

pub touched_lost : (h : Header) (l n : ℕ) (b : Bool) → b ≡ false
    → with_flags (with_lens h (set h.lens l n)) (set h.flags l false) ≡ with_layer h l n (get_or h.flags l false && b)
touched_lost h l n b e = ap (λ (fs : List Bool). with_lens (with_flags h fs) (set h.lens l n)) (flag_lost h.flags l b e)

-- ---- lengths in range

pub lens-step : (layers size : ℕ) (lens : List ℕ) (flags : List Bool) (k l : ℕ)
    → lens_from layers size lens flags (suc k) l ≡ length_ok l layers size (get_or lens l 0) (get_or flags l false) && lens_from layers size lens flags k (suc l)
unfolding lens_from
lens-step layers size lens flags k l = refl

pub lens_none : (layers size : ℕ) (lens : List ℕ) (flags : List Bool) (l : ℕ) → lens_from layers size lens flags 0 l ≡ true
unfolding lens_from
lens_none layers size lens flags l = refl

-- the test of a layer, and of a place past the last
pub len_in : (layers size : ℕ) (lens : List ℕ) (flags : List Bool) (k l : ℕ) → l < layers
    → lens_from layers size lens flags (suc k) l ≡ leb (get_or lens l 0) size && lens_from layers size lens flags k (suc l)
unfolding lens_from
len_in layers size lens flags k l h = rw (lt-ltb l layers h)

pub len_past : (layers size : ℕ) (lens : List ℕ) (flags : List Bool) (k l : ℕ) → layers ≤ l
    → lens_from layers size lens flags (suc k) l ≡ eqb (get_or lens l 0) 0 && not (get_or flags l false) && lens_from layers size lens flags k (suc l)
unfolding lens_from
len_past layers size lens flags k l h = rw (le-ltb l layers h)

-- the test of two runs of places, one behind the other
pub lens_split : (layers size : ℕ) (lens : List ℕ) (flags : List Bool) (a b l : ℕ)
    → lens_from layers size lens flags (a + b) l ≡ lens_from layers size lens flags a l && lens_from layers size lens flags b (a + l)
lens_split layers size lens flags zero b l = rw (zero-add b, zero-add l, lens_none layers size lens flags l)
lens_split layers size lens flags (suc a) b l =
    let p : suc a + b ≡ suc (a + b) = omega arith in
    let q : suc a + l ≡ a + suc l = omega arith in
    let t = length_ok l layers size (get_or lens l 0) (get_or flags l false) in
    rw (p, q, lens-step layers size lens flags (a + b) l, lens-step layers size lens flags a l, lens_split layers size lens flags a b (suc l))
    (sym (and_assoc t (lens_from layers size lens flags a (suc l)) (lens_from layers size lens flags b (a + suc l))))
