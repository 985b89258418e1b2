-- Layers judged one by one. Assumes nothing.
use mathlib.Core.Path.{◌≡◌, sym, ap, ◌∙◌}
use mathlib.Core.List.{List, ◌∷◌}
use Prim.Native.Nat.{ℕ, suc, ◌+◌}
use native.Mathlib.Numerals.{add-one}
use Rattle.state_forms.specs.Formats.{got, bad, then_read}
use Rattle.state_forms.specs.Grammar.{Page, Frame, page_format, pages_r}
use Rattle.state_lines.specs.inner.Places.{forget}
use Rattle.state_lines.proofs.Known.{known, known_bad}
use Rattle.state_lines.proofs.Walks.{forget_then}

module _ (k : Frame) (l n m : ℕ) (z : n ≡ suc m) (s : List ℕ) where
  bad_is : (page_format k l).read s ≡ bad → pages_r k l n s ≡ bad
  unfolding pages_r then_read
  bad_is h = rw (z, h)

  pub layer_bad : bad ≡ forget ((page_format k l).read s) → bad ≡ forget (pages_r k l n s)
  unfolding forget
  layer_bad e = sym (ap forget (bad_is (known_bad ((page_format k l).read s) e)))

  next_is : (p : Page) (t : List ℕ) → (page_format k l).read s ≡ got p t → pages_r k l n s ≡ then_read (pages_r k (suc l) m t) (λ ps u. got (p ∷ ps) u)
  unfolding pages_r then_read
  next_is p t h = rw (z, h)

  pub layer-next : (t : List ℕ) → got tt t ≡ forget ((page_format k l).read s) → forget (pages_r k (l + 1) m t) ≡ forget (pages_r k l n s)
  layer-next t e =
      let h = known ((page_format k l).read s) t e in
      rw (add-one l) (sym (ap forget (next_is h.0 t h.1) ∙ forget_then (pages_r k (suc l) m t) (λ ps. h.0 ∷ ps)))

pub layers_end : (k : Frame) (l n : ℕ) (s : List ℕ) → n ≡ 0 → got tt s ≡ forget (pages_r k l n s)
unfolding pages_r forget
layers_end k l n s z = rw z
