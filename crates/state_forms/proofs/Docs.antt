-- A whole text is read back exactly, and nothing else is read. Assumes nothing.
use mathlib.Core.Path.{◌≡◌, sym, ap, ◌∙◌}
use mathlib.Core.List.{List, [], ◌∷◌, ◌++◌, append-nil}
use Prim.Native.Nat.{ℕ}
use Rattle.text.specs.Decimals.{Word}
use Rattle.state_forms.specs.Formats.{Got, got, bad}
use Rattle.state_forms.specs.Grammar.{Frame, first_format, others_format}
use Rattle.state_forms.specs.Whole.{First, Others, doc_text, wholly, others_r}
use Rattle.state_forms.proofs.Exactness.{never_got}
use Rattle.state_forms.proofs.Lines.{ended_end, first_exact, others-exact}

whole_of : {A : Type 0} (g : Got A) (a : A) (t : List ℕ) → wholly g ≡ got a t → g ≡ got a []
unfolding wholly
whole_of (got b []) a t e = let q : b ≡ a = cc in ap (λ z. got z []) q
whole_of (got b (x ∷ u)) a t e = absurd (never_got e)
whole_of bad a t e = absurd (never_got e)

whole_is : {A : Type 0} (g : Got A) (a : A) → g ≡ got a [] → wholly g ≡ got a []
unfolding wholly
whole_is g a e = rw e

-- "A checked state is restored exactly": the first line, and what it leaves
pub first_back : (k : Frame) (f : First) (d : Others) → first_format.In f → first_format.read (doc_text k f d) ≡ got f ((others_format k f.1.1.1).write d)
unfolding doc_text
first_back k f d i = first_exact.reads f ((others_format k f.1.1.1).write d) i tt

-- all other lines
pub others-back : (k : Frame) (n : ℕ) (d : Others) → Word k.cols → Word k.rows → Word n → (others_format k n).In d → others_r k n ((others_format k n).write d) ≡ got d []
others-back k n d c r l i =
    whole_is ((others_format k n).read ((others_format k n).write d)) d
    (ap (λ (z : List ℕ). (others_format k n).read z) (sym (append-nil ((others_format k n).write d))) ∙ (others-exact k n c r l).reads d [] i ended_end)

-- "the reader accepts only text that the writer gives"
pub others_only : (k : Frame) (n : ℕ) (s : List ℕ) (d : Others) (t : List ℕ) → Word k.cols → Word k.rows → Word n → others_r k n s ≡ got d t → (others_format k n).In d × (s ≡ (others_format k n).write d)
others_only k n s d t c r l e =
    let o = (others-exact k n c r l).sound s d [] (whole_of ((others_format k n).read s) d t e) in
    (o.0, o.1 ∙ append-nil ((others_format k n).write d))

pub doc_only : (k : Frame) (f : First) (s u : List ℕ) (d : Others) (t : List ℕ) → Word k.cols → Word k.rows
    → first_format.read s ≡ got f u → others_r k f.1.1.1 u ≡ got d t → (others_format k f.1.1.1).In d × (s ≡ doc_text k f d)
unfolding doc_text
doc_only k f s u d t c r e q =
    let a = first_exact.sound s f u e in
    let b = others_only k f.1.1.1 u d t c r a.0.1.1.1 q in
    (b.0, a.1 ∙ ap (λ (z : List ℕ). first_format.write f ++ z) b.1)
