-- A whole text: the first line, then all others and nothing more.
use Rattle.std.specs.Prelude.{List, [], ◌∷◌, ◌++◌, ℕ}
use Rattle.state_forms.specs.Formats.{Got, got, bad}
use Rattle.state_forms.specs.Grammar.{Page, Frame, first_format, others_format}

-- heap, rows, cols, layers
abbrev pub First : Type 0
First = ℕ × (ℕ × (ℕ × ℕ))

-- weight, updates and mode, and the layers
abbrev pub Others : Type 0
Others = (ℕ × (ℕ × ℕ)) × List Page

unfoldable pub doc_text : Frame → First → Others → List ℕ
doc_text k f d = first_format.write f ++ (others_format k f.1.1.1).write d

-- nothing is left
unfoldable pub wholly : {A : Type 0} → Got A → Got A
wholly (got a []) = got a []
wholly (got a (x ∷ t)) = bad
wholly bad = bad

abbrev pub others_r : Frame → ℕ → List ℕ → Got Others
others_r k layers s = wholly ((others_format k layers).read s)
