-- A quoted text, letter by letter: this file is apart since a text's `∷` has the name of a list's.
use Rattle.std.specs.Prelude.{ℕ}
use Prim.Native.Char.{code}
use Prim.Native.String.{String, [], ◌∷◌}

abbrev pub each_letter : {A : Type 0} → A → (ℕ → A → A) → String → A
each_letter end next [] = end
each_letter end next (c ∷ s) = next (code c) (each_letter end next s)
