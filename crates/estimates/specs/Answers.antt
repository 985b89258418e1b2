-- What an estimate answers: a refusal's number, 0 for none, and the float.
use Rattle.std.specs.Prelude.{ℕ, Result, Float}
use Rattle.refusal.specs.declared.Refusal.{Refusal}
use Rattle.refusal.specs.Refusals.{refused, kept}
use Rattle.sums.specs.Terms.{plus_zero}

pub record Answer : Type 0 where
  pub refusal : ℕ
  pub value : Float

-- "A refusal gives its number. .. floats are +0.0"
abbrev pub float_answer : Result Float Refusal → Answer
float_answer r = record { refusal = refused r; value = kept plus_zero r }
