-- Lists of which only some values are written, each with its place: "only nonzero counters by rising column, rows of zeros omitted".
use Rattle.std.specs.Prelude.{List, [], ◌∷◌, ◌++◌, Bool, cond, ◌&&◌, ℕ, zero, suc, ◌-◌, leb, ltb, replicate}
use Rattle.state_forms.specs.Formats.{Got, got, bad, then_read, Format}

-- how a value is written with its place, the value that is left out, which values those are, and whether a value stands at the start of a text
pub record Listing (A : Type 0) : Type 1 where
  pub form : Format (ℕ × A)
  pub zero-value : A
  pub none : A → Bool
  pub begins : List ℕ → Bool

-- the values from place i on
unfoldable pub sparse_text : {A : Type 0} → Listing A → ℕ → List A → List ℕ
sparse_text m i [] = []
sparse_text m i (x ∷ xs) = cond (m.none x) (sparse_text m (suc i) xs) (m.form.write (i, x) ++ sparse_text m (suc i) xs)

-- the values of the places from i up to e, with zeros where none stands; f bounds how many stand
unfoldable pub sparse_r : {A : Type 0} → Listing A → ℕ → ℕ → ℕ → List ℕ → Got (List A)
sparse_r m zero i e s = bad
sparse_r m (suc f) i e s =
    cond (m.begins s)
    (then_read (m.form.read s) (λ p t.
    cond (leb i p.0 && ltb p.0 e)
    (then_read (sparse_r m f (suc p.0) e t) (λ xs u. got (replicate (p.0 - i) m.zero-value ++ (p.1 ∷ xs)) u))
    bad))
    (got (replicate (e - i) m.zero-value) s)
