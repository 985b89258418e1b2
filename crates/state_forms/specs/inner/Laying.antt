-- What a writer does: it stores a text from a place on, as far as the slice goes, and answers the place past it.
use Rattle.std.specs.Prelude.{◌≡◌, List, [], cond, ℕ, ◌+◌, ◌<◌, length}
use Rattle.std.proofs.lemmas.List.Edits.{sets}
use Rattle.state_forms.specs.Sparse.{Listing}

-- no place of a text comes near the end of the numbers
abbrev pub TextRoom : ℕ → List ℕ → Type 0
TextRoom at a = at + length a < 9223372036854775808

-- the list l with the text a from place i on is o, and j is the place past it. A store past the end of a list leaves it as it is: an empty slice
-- stays empty, and the place alone is worked out.
pub record LaidText (l : List ℕ) (i : ℕ) (a o : List ℕ) (j : ℕ) : Type 0 where
  pub text : o ≡ sets l i a
  pub place : j ≡ i + length a

-- what is written for one value of a sparse list
abbrev pub one_text : {A : Type 0} → Listing A → ℕ → A → List ℕ
one_text m i x = cond (m.none x) [] (m.form.write (i, x))
