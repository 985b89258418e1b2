-- Refusals by name and by number.
use Rattle.std.specs.Prelude.{ℕ, Result, Ok, Err}
use Rattle.refusal.specs.declared.Refusal.{Refusal}
use Rattle.refusal.specs.declared.Refusal.TheVariants as refusal

-- "A refusal gives its number."
abbrev pub number_of : Refusal → ℕ
number_of refusal.ZeroDimension = 1
number_of refusal.TooManyLayers = 2
number_of refusal.TooManyHashBits = 3
number_of refusal.AboveDomain = 4
number_of refusal.NegativeWeight = 5
number_of refusal.MixedModes = 6
number_of refusal.WeightAbove = 7
number_of refusal.OutsideShape = 8
number_of refusal.OutOfRange = 9
number_of refusal.ShapesDiffer = 10
number_of refusal.CounterAbove = 11
number_of refusal.RecordLength = 12
number_of refusal.Unreadable = 13
number_of refusal.UpdatesAbove = 14
number_of refusal.NotAText = 15
number_of refusal.TooShort = 16

-- what a call answers, or the number that it is refused with
pub data Answer (A : Type 0) : Type 0 where
  yes : A → Answer A
  no : ℕ → Answer A

abbrev pub answer : {A : Type 0} → Result A Refusal → Answer A
answer (Ok a) = Answer.yes a
answer (Err e) = Answer.no (number_of e)

-- the number alone, 0 where nothing is refused
abbrev pub refused : {A : Type 0} → Result A Refusal → ℕ
refused (Ok a) = 0
refused (Err e) = number_of e

-- what a call answers; where it is refused, a
abbrev pub kept : {A : Type 0} → A → Result A Refusal → A
kept a (Ok b) = b
kept a (Err e) = a
