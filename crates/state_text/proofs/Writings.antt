-- The steps of the writer, and its answers. Assumes nothing.
use mathlib.Core.Path.{◌≡◌, sym, ◌∙◌}
use mathlib.Core.Bool.{true, false}
use mathlib.Core.List.{List, [], ◌++◌, append_assoc}
use Prim.Native.Nat.{ℕ, suc, ◌+◌, ◌-◌, ◌≤◌, ◌<◌}
use native.Mathlib.Omega.{arith}
use native.Mathlib.Numerals.{add-one}
use lib.ListN.{length}
use borrow.Author.Tests.{lt-ltb, le-ltb}
use Rattle.layer.specs.declared.Dims.{Dims}
use Rattle.header.specs.OneTier.{OneTiered, is_one_tier}
use Rattle.header.specs.Header.{mode_number}
use Rattle.layer.specs.Layer.{Layer}
use Rattle.layout.specs.State.{State, shape_of, dims_at, layer_at}
use Rattle.layout.proofs.OneTier.{dims-alike}
use Rattle.layout.specs.Slices.{Lent, view}
use Rattle.state_check.specs.Check.{state_ok}
use Rattle.state_forms.specs.Grammar.{Frame, page_format, pages_text, first_format, head_format}
use Rattle.state_forms.specs.Whole.{doc_text}
use Rattle.state_forms.specs.inner.Laying.{LaidText}
use Rattle.state_forms.proofs.Layings.{three_long}
use Rattle.state_text.specs.Pages.{page_of, frame_of, dims_of, first_of, pages_of, others_of, text_of}
use Rattle.state_text.specs.Calls.{copied, not_copied, has_text, write_call}

-- layer l, then the others
pages_step : (k : Frame) (s : State) (n l : ℕ) → l < n
    → pages_text k l (pages_of s (n - l) l) ≡ (page_format k l).write (page_of (dims_of (shape_of s)) (layer_at s l)) ++ pages_text k (l + 1) (pages_of s (n - (l + 1)) (l + 1))
unfolding pages_text pages_of
pages_step k s n l h = let e : n - l ≡ suc (n - (l + 1)) = omega arith in rw (e, add-one)

-- the same of a lent state, whose layer l is y with the dimensions d
pub layer_step : (r : Lent) (l : ℕ) (d : Dims) (y : Layer) → OneTiered r.head.shape → l < r.head.shape.layers → d ≡ dims_at r.head.shape l → y ≡ layer_at (view r) l
    → pages_text (frame_of (dims_of r.head.shape)) l (pages_of (view r) (r.head.shape.layers - l) l)
    ≡ (page_format (frame_of d) l).write (page_of d y) ++ pages_text (frame_of (dims_of r.head.shape)) (l + 1) (pages_of (view r) (r.head.shape.layers - (l + 1)) (l + 1))
unfolding view
layer_step r l d y o h f e = rw (f ∙ dims-alike r.head.shape o l, e) (pages_step (frame_of (dims_of r.head.shape)) (view r) r.head.shape.layers l h)

pub pages_none : (k : Frame) (s : State) (n l : ℕ) → n ≤ l → pages_text k l (pages_of s (n - l) l) ≡ []
unfolding pages_text pages_of
pages_none k s n l h = let e : n - l ≡ 0 = omega arith in rw e

pub pages_start : (k : Frame) (s : State) (n : ℕ) → pages_text k 0 (pages_of s (n - 0) 0) ≡ pages_text k 0 (pages_of s n 0)
pages_start k s n = let e : n - 0 ≡ n = omega arith in rw e

-- the text by its parts
abbrev head_numbers : Lent → ℕ × (ℕ × ℕ)
head_numbers r = (r.head.totals.weight, (r.head.totals.updates, mode_number r.head.mode))

pub state-join : (r : Lent)
    → (first_format.write (first_of r.head.shape) ++ head_format.write (head_numbers r)) ++ pages_text (frame_of (dims_of r.head.shape)) 0 (pages_of (view r) r.head.shape.layers 0) ≡ text_of (view r)
unfolding text_of others_of doc_text view
state-join r = append_assoc (first_format.write (first_of r.head.shape)) (head_format.write (head_numbers r)) (pages_text (frame_of (dims_of r.head.shape)) 0 (pages_of (view r) r.head.shape.layers 0))

pub state-long : (r : Lent)
    → length (first_format.write (first_of r.head.shape)) + length (head_format.write (head_numbers r)) + length (pages_text (frame_of (dims_of r.head.shape)) 0 (pages_of (view r) r.head.shape.layers 0)) ≡ length (text_of (view r))
state-long r = three_long (first_format.write (first_of r.head.shape)) (head_format.write (head_numbers r)) (pages_text (frame_of (dims_of r.head.shape)) 0 (pages_of (view r) r.head.shape.layers 0)) (text_of (view r)) (state-join r)

-- ---- the answers

module _ (r : Lent) (l : List ℕ) where
  pub fails : state_ok r ≡ false → not_copied 9 l ≡ write_call r l
  unfolding write_call
  fails e = sym (rw e)

  pub two_tiers : state_ok r ≡ true → is_one_tier r.head.shape ≡ false → not_copied 9 l ≡ write_call r l
  unfolding write_call
  two_tiers e t = sym (rw (e, t))

  pub short : (n : ℕ) → has_text r ≡ true → n ≡ 0 + length (text_of (view r)) → length l < n → not_copied 16 l ≡ write_call r l
  unfolding write_call
  short n e q k = let m : length l < length (text_of (view r)) = omega arith in sym (rw (e, lt-ltb (length l) (length (text_of (view r))) m))

  pub done : (n k : ℕ) (o : List ℕ) → has_text r ≡ true → n ≡ 0 + length (text_of (view r)) → n ≤ length l → LaidText l 0 (text_of (view r)) o k → copied (record { refusal = 0; bytes = k }) o ≡ write_call r l
  unfolding write_call
  done n k o e q m x =
      let b : length (text_of (view r)) ≤ length l = omega arith in
      let y : k ≡ length (text_of (view r)) = omega (arith, x.place) in
      (λ i. copied (record { refusal = 0; bytes = y i }) (x.text i)) ∙ sym (rw (e, le-ltb (length l) (length (text_of (view r))) b))
