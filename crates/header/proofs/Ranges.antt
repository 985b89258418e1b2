-- What a header in range holds. Assumes nothing.
use mathlib.Core.Path.{◌≡◌}
use mathlib.Core.Bool.{Bool, true, false, ◌&&◌}
use mathlib.Core.List.{List}
use Prim.Native.Nat.{ℕ, zero, suc, ◌+◌, ◌≤◌, ◌<◌}
use native.Mathlib.Nat.{zero-add}
use native.Mathlib.Omega.{arith}
use borrow.Author.Tests.{leb-true, eqb-true, lt-ltb}
use lib.Dec.{eqb}
use lib.ListN.{get_or}
use Rattle.words.proofs.Bools.{and_left, and_right}
use Rattle.header.specs.Shape.{max_layers, shape_refusal}
use Rattle.header.specs.Totals.{totals_ok}
use Rattle.header.specs.Header.{length_ok, lens_from, header_ok}
use Rattle.header.specs.declared.Header.{Header}
use Rattle.header.specs.inner.Accepted.{Accepted}
use Rattle.header.proofs.Refusals.{accepted_of}
use Rattle.header.proofs.Bounds.{Within, within_of}

pub record Ranged (h : Header) : Type 0 where
  pub accepted : Accepted h.shape
  pub totals : Within h.totals
  pub lens : lens_from h.shape.layers h.shape.heap_size h.lens h.flags max_layers 0 ≡ true

pub ranged_of : (h : Header) → header_ok h ≡ true → Ranged h
unfolding header_ok
ranged_of h e =
    let both = and_left (eqb (shape_refusal h.shape) 0 && totals_ok h.totals) (lens_from h.shape.layers h.shape.heap_size h.lens h.flags max_layers 0) e in
    record {
      accepted = accepted_of h.shape (eqb-true (shape_refusal h.shape) 0 (and_left (eqb (shape_refusal h.shape) 0) (totals_ok h.totals) both));
      totals = within_of h.totals (and_right (eqb (shape_refusal h.shape) 0) (totals_ok h.totals) both);
      lens = and_right (eqb (shape_refusal h.shape) 0 && totals_ok h.totals) (lens_from h.shape.layers h.shape.heap_size h.lens h.flags max_layers 0) e;
    }

-- the code's way: the shape first, then the rest
pub header_is : (h : Header) (good rest : Bool) → eqb (shape_refusal h.shape) 0 ≡ good
    → rest ≡ good && (totals_ok h.totals && lens_from h.shape.layers h.shape.heap_size h.lens h.flags max_layers 0)
    → rest ≡ header_ok h
unfolding header_ok
header_is h true rest e r = rw e r
header_is h false rest e r = rw e r

-- a layer's length is at most the heap size
lens-at : (layers size : ℕ) (lens : List ℕ) (flags : List Bool) (k i j : ℕ) → j < k → i + j < layers → lens_from layers size lens flags k i ≡ true → get_or lens (i + j) 0 ≤ size
unfolding lens_from
lens-at layers size lens flags zero i j h l e = absurd (omega arith)
lens-at layers size lens flags (suc k) i zero h l e =
    let q : i + 0 ≡ i = omega arith in
    rw q (leb-true (get_or lens i 0) size (rw (lt-ltb i layers (omega arith)) at (and_left (length_ok i layers size (get_or lens i 0) (get_or flags i false)) (lens_from layers size lens flags k (suc i)) e)))
lens-at layers size lens flags (suc k) i (suc j) h l e =
    let q : i + suc j ≡ suc i + j = omega arith in
    rw q (lens-at layers size lens flags k (suc i) j (omega arith) (omega arith) (and_right (length_ok i layers size (get_or lens i 0) (get_or flags i false)) (lens_from layers size lens flags k (suc i)) e))

pub len-few : (h : Header) → Ranged h → (l : ℕ) → l < h.shape.layers → get_or h.lens l 0 ≤ h.shape.heap_size
len-few h r l p = rw (zero-add l) at (lens-at h.shape.layers h.shape.heap_size h.lens h.flags max_layers 0 l (omega (arith, r.accepted.few)) (omega arith) r.lens)
