-- Readings at places of a text: the place past a form stands for what is left of the text.
use Rattle.std.specs.Prelude.{List, ◌∷◌, ℕ, ℤ, length, drop, Option, None, Some}
use Rattle.text.specs.Words.{bytes_of}
use Rattle.heap_moves.specs.declared.Item.{Item}
use Rattle.heap_moves.specs.Cands.{Cand}
use Rattle.heap_moves.specs.Flat.{cand_of}
use Rattle.state_forms.specs.Formats.{Got, got, bad, then_read, word_r, num_r, this}
use Rattle.state_forms.specs.Whole.{First}
use Rattle.state_lines.specs.declared.heads.FirstLine.{FirstLine}
use Rattle.state_lines.specs.declared.heads.HeadLines.{HeadLines}

-- rows and columns are at most so many wherever lines are read: 2^20, so that no place of a counter comes near the end of the numbers
abbrev pub most_side : ℕ
most_side = 1048576

-- ---- what a function answers, as what a format reads

-- a place alone
abbrev pub spot : List ℕ → Option ℕ → Got (Unit {0})
spot s (Some j) = got tt (drop j s)
spot s None = bad

-- a value, as another one says it, and the place past it
abbrev pub spot_as : {A B : Type 0} → (A → B) → List ℕ → Option (A × ℕ) → Got B
spot_as f s (Some p) = got (f p.0) (drop p.1 s)
spot_as f s None = bad

abbrev pub value_spot : {A : Type 0} → List ℕ → Option (A × ℕ) → Got A
value_spot s r = spot_as (λ a. a) s r

abbrev pub first_spot : List ℕ → Option (FirstLine × ℕ) → Got First
first_spot s r = spot_as (λ f. (f.heap, (f.rows, (f.cols, f.layers)))) s r

abbrev pub head_spot : List ℕ → Option (HeadLines × ℕ) → Got (ℕ × (ℕ × ℕ))
head_spot s r = spot_as (λ h. (h.weight, (h.updates, h.mode))) s r

abbrev pub key_spot : List ℕ → Option ((Item × ℤ) × ℕ) → Got Cand
key_spot s r = spot_as (λ k. cand_of k.0 k.1) s r

-- ---- what is left, without the value, or with the number of values

unfoldable pub forget : {A : Type 0} → Got A → Got (Unit {0})
forget (got a t) = got tt t
forget bad = bad

unfoldable pub how_many : {A : Type 0} → Got (List A) → Got ℕ
how_many (got xs t) = got (length xs) t
how_many bad = bad

-- ---- a row's line up to its number: the space that ends the number is left, since it begins the first pair

unfoldable pub row_head_r : ℕ → List ℕ → Got ℕ
row_head_r l s =
    then_read (word_r (bytes_of "(row ") s) (λ _ t.
    then_read ((this l 32).read t) (λ _ u.
    then_read (num_r 32 u) (λ r w. got r (32 ∷ w))))
