-- What an answer tells of a reading: a place says what is left, a number how many values there are. Assumes nothing.
use mathlib.Core.Path.{◌≡◌, refl, sym, ap}
use mathlib.Core.List.{List}
use Prim.Native.Nat.{ℕ}
use lib.ListN.{length}
use Rattle.state_forms.specs.Formats.{Got, got, bad, then_read}
use Rattle.state_lines.specs.inner.Places.{forget, how_many}
use Rattle.state_forms.proofs.Exactness.{never_got, got_value, got_left}

pub known : {A : Type 0} (g : Got A) (u : List ℕ) → got tt u ≡ forget g → (a : A) × (g ≡ got a u)
unfolding forget
known (got a t) u e = (a, ap (got a) (sym (got_left e)))
known bad u e = absurd (never_got (sym e))

pub known_bad : {A : Type 0} (g : Got A) → bad ≡ forget g → g ≡ bad
unfolding forget
known_bad (got a t) e = absurd (never_got e)
known_bad bad e = refl

pub known_many : {A : Type 0} (g : Got (List A)) (n : ℕ) (u : List ℕ) → got n u ≡ how_many g → (xs : List A) × ((g ≡ got xs u) × (n ≡ length xs))
unfolding how_many
known_many (got xs t) n u e = (xs, (ap (got xs) (sym (got_left e)), got_value e))
known_many bad n u e = absurd (never_got (sym e))

pub known_many_bad : {A : Type 0} (g : Got (List A)) → bad ≡ how_many g → g ≡ bad
unfolding how_many
known_many_bad (got xs t) e = absurd (never_got e)
known_many_bad bad e = refl

pub stays_bad : {A B : Type 0} (g : Got A) (f : A → List ℕ → Got B) → g ≡ bad → then_read g f ≡ bad
unfolding then_read
stays_bad g f e = rw e
