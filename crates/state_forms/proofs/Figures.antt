-- One small state's text, worked out and read back. Assumes nothing.
use mathlib.Core.Path.{◌≡◌, refl}
use mathlib.Core.List.{List, [], ◌∷◌, ◌++◌}
use mathlib.Core.Bool.{true, false}
use Prim.Native.Nat.{ℕ}
use lib.IntN.{pos, negsuc}
use Rattle.text.specs.Words.{bytes_of}
use Rattle.text.specs.Decimals.{dec, dec_in}
use Rattle.text.specs.Signs.{signed_dec}
use Rattle.state_forms.specs.Sparse.{sparse_text}
use Rattle.state_forms.specs.Grammar.{is_zero, all_zero, cand_from, keys_text, Frame, pages_text}
use Rattle.state_forms.specs.Whole.{First, Others, doc_text}

line : List ℕ → List ℕ → List ℕ
line w t = w ++ (10 ∷ t)

abbrev kind : Frame
kind = record { size = 2; rows = 2; cols = 4; test = λ cs. true }

abbrev first : First
first = (2, (2, (4, 2)))

-- layer 0 has counters in both rows and one candidate, layer 1 has nothing
abbrev rest : Others
rest = (
  (5, (1, 1)),
  record { flag = true; rows = (pos 0 ∷ pos 0 ∷ pos 5 ∷ pos 0 ∷ []) ∷ (pos 0 ∷ negsuc 4 ∷ pos 0 ∷ pos 12 ∷ []) ∷ []; keys = cand_from (7, (0, (9223372036854775808, (6, pos 5)))) ∷ [] }
      ∷ record { flag = false; rows = (pos 0 ∷ pos 0 ∷ pos 0 ∷ pos 0 ∷ []) ∷ (pos 0 ∷ pos 0 ∷ pos 0 ∷ pos 0 ∷ []) ∷ []; keys = [] }
      ∷ [],
)

abbrev text : List ℕ
text =
    bytes_of "(univmon 2 2 4 2)" ++ (10 ∷ (bytes_of "(weight 5)" ++ (10 ∷ (bytes_of "(updates 1)" ++ (10 ∷ (bytes_of "(mode 1)" ++ (10 ∷ (bytes_of "(flag 0 1)" ++ (10 ∷
    (bytes_of "(row 0 0 (2 5))" ++ (10 ∷ (bytes_of "(row 0 1 (1 -5) (3 12))" ++ (10 ∷ (bytes_of "(key 0 7 0 9223372036854775808 6 5)" ++ (10 ∷ (bytes_of "(flag 1 0)" ++ (10 ∷ [])))))))))))))))))

pub small-text : doc_text kind first rest ≡ text
unfolding doc_text sparse_text is_zero all_zero keys_text pages_text dec dec_in signed_dec
small-text = refl
