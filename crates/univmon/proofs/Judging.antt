-- The tests of the touched layers. Assumes nothing.
use mathlib.Core.Path.{◌≡◌, refl, sym, ap, ◌∙◌}
use mathlib.Core.Bool.{Bool, true, false, and-false, ◌&&◌}
use mathlib.Core.List.{List}
use Prim.Native.Nat.{ℕ, zero, suc, ◌+◌, ◌-◌, ◌≤◌, ◌<◌}
use native.Mathlib.Omega.{arith}
use borrow.Author.Tests.{not-false}
use Rattle.words.specs.Tests.{number}
use Rattle.words.proofs.Tests.{off_number}
use Rattle.words.proofs.Bools.{and_left, and_right, both, and_cross}
use Rattle.header.specs.declared.Shape.{Shape}
use Rattle.layer.specs.Layer.{Layer}
use Rattle.layout.specs.State.{State, layer_at, all_layers}
use Rattle.layout.proofs.States.{layers_first}
use Rattle.layout.specs.Slices.{Lent, view}
use Rattle.univmon.specs.inner.Needs.{JudgeReady, SendsReady, ready_at}
use Rattle.univmon.specs.Updates.{reads_at, fits_at, layers_tests}

-- one layer of many
pub judge-one : (r : Lent) (words : List ℕ) (w many first l : ℕ) → JudgeReady r words w many first → l < many + first → JudgeReady r words w 1 l
judge-one r words w many first l p h = record { standing = p.standing; headed = p.headed; recorded = p.recorded; light = p.light; inside = omega (arith, p.inside) }

-- what is read does not depend on the weight
pub judge-light : (r : Lent) (words : List ℕ) (w many first : ℕ) → JudgeReady r words w many first → JudgeReady r words 0 many first
judge-light r words w many first p = record { standing = p.standing; headed = p.headed; recorded = p.recorded; light = omega arith; inside = p.inside }

-- all layers are ready if all are read and all fit
pub both_tests : (sh : Shape) (words : List ℕ) (w k l : ℕ) (s : State) → all_layers (ready_at sh words w) k l s ≡ all_layers (reads_at sh words w) k l s && all_layers (fits_at sh words w) k l s
unfolding all_layers
both_tests sh words w zero l s = refl
both_tests sh words w (suc k) l s =
    ap (λ (b : Bool). ready_at sh words w l (layer_at s l) && b) (both_tests sh words w k (suc l) s)
    ∙ and_cross (reads_at sh words w l (layer_at s l)) (fits_at sh words w l (layer_at s l)) (all_layers (reads_at sh words w) k (suc l) s) (all_layers (fits_at sh words w) k (suc l) s)

-- the layers behind the first
pub judge-behind : (r : Lent) (words : List ℕ) (w many first : ℕ) → JudgeReady r words w many first → 1 ≤ many → JudgeReady r words w (many - 1) (first + 1)
judge-behind r words w many first p h = record { standing = p.standing; headed = p.headed; recorded = p.recorded; light = p.light; inside = omega (arith, p.inside) }

-- the first layer and those behind it, tested apart
module _ (p : ℕ → Layer → Bool) (s : State) (many first : ℕ) (h : 1 ≤ many) where
  pub all_pass : p first (layer_at s first) ≡ true → all_layers p (many - 1) (first + 1) s ≡ true → all_layers p many first s ≡ true
  all_pass e f = layers_first p s many first h ∙ both e f

  pub first_fails : p first (layer_at s first) ≡ false → all_layers p many first s ≡ false
  first_fails e = layers_first p s many first h ∙ rw e

  pub behind_fails : all_layers p (many - 1) (first + 1) s ≡ false → all_layers p many first s ≡ false
  behind_fails e = layers_first p s many first h ∙ ap (λ (b : Bool). p first (layer_at s first) && b) e ∙ and-false (p first (layer_at s first))

-- layers that are ready may be sent to
pub ready_sends : (r : Lent) (words : List ℕ) (w many first : ℕ) → JudgeReady r words w many first → all_layers (ready_at r.head.shape words w) many first (view r) ≡ true → SendsReady r words w many first
ready_sends r words w many first p e =
    let b = sym (both_tests r.head.shape words w many first (view r)) ∙ e in
    record {
      standing = p.standing;
      headed = p.headed;
      recorded = p.recorded;
      light = p.light;
      inside = p.inside;
      read = and_left (all_layers (reads_at r.head.shape words w) many first (view r)) (all_layers (fits_at r.head.shape words w) many first (view r)) b;
      fit = and_right (all_layers (reads_at r.head.shape words w) many first (view r)) (all_layers (fits_at r.head.shape words w) many first (view r)) b;
    }

module _ (sh : Shape) (words : List ℕ) (w many first : ℕ) (s : State) where
  abbrev reads : Bool
  reads = all_layers (reads_at sh words w) many first s

  abbrev fits : Bool
  fits = all_layers (fits_at sh words w) many first s

  pub judged_ready : all_layers (ready_at sh words w) many first s ≡ true → 0 ≡ number (layers_tests sh words w many first s)
  judged_ready e = let b = sym (both_tests sh words w many first s) ∙ e in rw (and_left reads fits b, and_right reads fits b)

  -- where nothing is refused, all layers are ready
  pub ready_judged : number (layers_tests sh words w many first s) ≡ 0 → all_layers (ready_at sh words w) many first s ≡ true
  ready_judged z =
      let q = off_number (layers_tests sh words w many first s) refl z in
      both_tests sh words w many first s ∙ both {a = reads} {b = fits} (not-false reads q.0) (not-false fits q.1.0)

  pub judged_unfit : all_layers (ready_at sh words w) many first s ≡ false → reads ≡ true → 11 ≡ number (layers_tests sh words w many first s)
  judged_unfit e r = let f : fits ≡ false = ap (λ (a : Bool). a && fits) (sym r) ∙ sym (both_tests sh words w many first s) ∙ e in rw (r, f)

  pub judged_unread : reads ≡ false → 9 ≡ number (layers_tests sh words w many first s)
  judged_unread r = rw r
