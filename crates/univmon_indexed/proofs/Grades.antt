-- Grades of an update at the layers that it touches, and the number that it is refused with. Assumes nothing.
use mathlib.Core.Path.{◌≡◌, refl, sym, ap, ◌∙◌}
use mathlib.Core.Bool.{Bool, true, false, ◌&&◌}
use mathlib.Core.List.{List}
use Prim.Native.Nat.{ℕ, zero, suc}
use lib.Dec.{eqb, leb}
use borrow.Author.Tests.{not-false}
use Rattle.words.specs.Tests.{number}
use Rattle.words.proofs.Tests.{off_number}
use Rattle.words.proofs.Bools.{never, and_left, and_right, both, and_cross}
use Rattle.header.specs.declared.Shape.{Shape}
use Rattle.layer.specs.declared.Dims.{Dims}
use Rattle.layer.specs.Layer.{Layer, LayerUpdate, add_fits}
use Rattle.layer_indexed.specs.Adding.{add_reads_in, add_moves_in}
use Rattle.layer_indexed.specs.inner.Needs.{grade_by, add_grade}
use Rattle.layout.specs.State.{State, layer_at, all_layers}
use Rattle.univmon.specs.Updates.{fits_at}
use Rattle.univmon_indexed.specs.Updates.{reads_in, moves_in, layers_tests_in}
use Rattle.univmon_indexed.specs.inner.Needs.{reaches_at, fine_at}

-- ---- what it means to come so far

reach-two : (a b c : Bool) → leb 2 (grade_by a b c) ≡ a
reach-two false b c = refl
reach-two true false c = refl
reach-two true true false = refl
reach-two true true true = refl

reach_three : (a b c : Bool) → leb 3 (grade_by a b c) ≡ a && b
reach_three false b c = refl
reach_three true false c = refl
reach_three true true false = refl
reach_three true true true = refl

reach_four : (a b c : Bool) → leb 4 (grade_by a b c) ≡ (a && b) && c
reach_four false b c = refl
reach_four true false c = refl
reach_four true true false = refl
reach_four true true true = refl

-- 4 is the greatest
pub four_is : (d : Dims) (u : LayerUpdate) (xs : List ℕ) (y : Layer) → eqb (add_grade d u xs y) 4 ≡ leb 4 (add_grade d u xs y)
unfolding add_grade
four_is d u xs y = go (add_reads_in d u xs y) (add_fits d u y) (add_moves_in d u xs y)
  where
    go : (a b c : Bool) → eqb (grade_by a b c) 4 ≡ leb 4 (grade_by a b c)
    go false b c = refl
    go true false c = refl
    go true true false = refl
    go true true true = refl

pub four_of : (d : Dims) (u : LayerUpdate) (xs : List ℕ) (y : Layer) → leb 4 (add_grade d u xs y) ≡ true → add_grade d u xs y ≡ 4
unfolding add_grade
four_of d u xs y = go (add_reads_in d u xs y) (add_fits d u y) (add_moves_in d u xs y)
  where
    go : (a b c : Bool) → leb 4 (grade_by a b c) ≡ true → grade_by a b c ≡ 4
    go false b c e = absurd (never e)
    go true false c e = absurd (never e)
    go true true false e = absurd (never e)
    go true true true e = refl

-- ---- over layers

all_ext : (p q : ℕ → Layer → Bool) → ((l : ℕ) (y : Layer) → p l y ≡ q l y) → (k l : ℕ) (s : State) → all_layers p k l s ≡ all_layers q k l s
unfolding all_layers
all_ext p q h zero l s = refl
all_ext p q h (suc k) l s = ap (λ (b : Bool). b && all_layers p k (suc l) s) (h l (layer_at s l)) ∙ ap (λ (b : Bool). q l (layer_at s l) && b) (all_ext p q h k (suc l) s)

all_both : (p q : ℕ → Layer → Bool) (k l : ℕ) (s : State) → all_layers (λ m y. p m y && q m y) k l s ≡ all_layers p k l s && all_layers q k l s
unfolding all_layers
all_both p q zero l s = refl
all_both p q (suc k) l s =
    ap (λ (b : Bool). (p l (layer_at s l) && q l (layer_at s l)) && b) (all_both p q k (suc l) s)
    ∙ and_cross (p l (layer_at s l)) (q l (layer_at s l)) (all_layers p k (suc l) s) (all_layers q k (suc l) s)

module _ (sh : Shape) (words : List ℕ) (w : ℕ) (xs : List ℕ) (many first : ℕ) (s : State) where
  abbrev reads : Bool
  reads = all_layers (reads_in sh words w xs) many first s

  abbrev fits : Bool
  fits = all_layers (fits_at sh words w) many first s

  abbrev moves : Bool
  moves = all_layers (moves_in sh words w xs) many first s

  pub all_two : all_layers (reaches_at 2 sh words w xs) many first s ≡ reads
  unfolding add_grade
  all_two = all_ext (reaches_at 2 sh words w xs) (reads_in sh words w xs) (λ l y. reach-two (reads_in sh words w xs l y) (fits_at sh words w l y) (moves_in sh words w xs l y)) many first s

  pub all_three : all_layers (reaches_at 3 sh words w xs) many first s ≡ reads && fits
  unfolding add_grade
  all_three =
      all_ext (reaches_at 3 sh words w xs) (λ l y. reads_in sh words w xs l y && fits_at sh words w l y) (λ l y. reach_three (reads_in sh words w xs l y) (fits_at sh words w l y) (moves_in sh words w xs l y)) many first s
      ∙ all_both (reads_in sh words w xs) (fits_at sh words w) many first s

  pub all_four : all_layers (fine_at sh words w xs) many first s ≡ (reads && fits) && moves
  unfolding add_grade
  all_four =
      all_ext (fine_at sh words w xs) (λ l y. (reads_in sh words w xs l y && fits_at sh words w l y) && moves_in sh words w xs l y) (λ l y. reach_four (reads_in sh words w xs l y) (fits_at sh words w l y) (moves_in sh words w xs l y)) many first s
      ∙ all_both (λ l y. reads_in sh words w xs l y && fits_at sh words w l y) (moves_in sh words w xs) many first s
      ∙ ap (λ (b : Bool). b && moves) (all_both (reads_in sh words w xs) (fits_at sh words w) many first s)

  -- ---- the number

  pub judged_unread : all_layers (reaches_at 2 sh words w xs) many first s ≡ false → 9 ≡ number (layers_tests_in sh words w xs many first s)
  judged_unread e = let r : reads ≡ false = sym all_two ∙ e in rw r

  module _ (read : all_layers (reaches_at 2 sh words w xs) many first s ≡ true) where
    read_is : reads ≡ true
    read_is = sym all_two ∙ read

    pub judged_unfit : all_layers (reaches_at 3 sh words w xs) many first s ≡ false → 11 ≡ number (layers_tests_in sh words w xs many first s)
    judged_unfit e = let f : fits ≡ false = ap (λ (a : Bool). a && fits) (sym read_is) ∙ sym all_three ∙ e in rw (read_is, f)

    module _ (fit : all_layers (reaches_at 3 sh words w xs) many first s ≡ true) where
      fit_is : fits ≡ true
      fit_is = and_right reads fits (sym all_three ∙ fit)

      pub judged_unmoved : all_layers (fine_at sh words w xs) many first s ≡ false → 9 ≡ number (layers_tests_in sh words w xs many first s)
      judged_unmoved e =
          let f : moves ≡ false = ap (λ (a : Bool). a && moves) (sym (both {a = reads} {b = fits} read_is fit_is)) ∙ sym all_four ∙ e in
          rw (read_is, fit_is, f)

  pub judged_fine : all_layers (fine_at sh words w xs) many first s ≡ true → 0 ≡ number (layers_tests_in sh words w xs many first s)
  judged_fine e =
      let a = sym all_four ∙ e in
      let b = and_left (reads && fits) moves a in
      rw (and_left reads fits b, and_right reads fits b, and_right (reads && fits) moves a)

  -- where nothing is refused, the update may be made at all layers
  pub fine_judged : number (layers_tests_in sh words w xs many first s) ≡ 0 → all_layers (fine_at sh words w xs) many first s ≡ true
  fine_judged z =
      let q = off_number (layers_tests_in sh words w xs many first s) refl z in
      all_four ∙ both {a = reads && fits} {b = moves} (both {a = reads} {b = fits} (not-false reads q.0) (not-false fits q.1.0)) (not-false moves q.1.1.0)
