-- What it is for a format to be exact.
use Rattle.std.specs.Prelude.{◌≡◌, List, ◌++◌, ℕ}
use Rattle.state_forms.specs.Formats.{got, Format}

-- "restored exactly" and "accepts only text that the writer gives", of one format. What comes after the text may be asked to be of a kind.
pub record Exact {A : Type 0} (After : List ℕ → Type 0) (f : Format A) : Type 0 where
  pub reads : (a : A) (t : List ℕ) → f.In a → After t → f.read (f.write a ++ t) ≡ got a t
  pub sound : (s : List ℕ) (a : A) (t : List ℕ) → f.read s ≡ got a t → f.In a × (s ≡ f.write a ++ t)

abbrev pub Any : List ℕ → Type 0
Any t = Unit {0}
