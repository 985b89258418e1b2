-- What a call on a header answers: the refusal's number, 0 for none, and the header that it leaves.
use Rattle.std.specs.Prelude.{ℕ, Result}
use Rattle.refusal.specs.declared.Refusal.{Refusal}
use Rattle.refusal.specs.Refusals.{refused, kept}
use Rattle.header.specs.declared.Header.{Header}
use Rattle.header.specs.declared.Scalars.{Scalars}

-- "Header and slices remain unchanged" on a refusal
pub record Answered : Type 0 where
  pub refusal : ℕ
  pub header : Header

-- of a call on the header h
abbrev pub answered_by : Header → Result Header Refusal → Answered
answered_by h r = record { refusal = refused r; header = kept h r }

-- the same where lengths and flags are lent
pub record AnsweredLent : Type 0 where
  pub refusal : ℕ
  pub scalars : Scalars

abbrev pub answered_lent_by : Scalars → Result Scalars Refusal → AnsweredLent
answered_lent_by f r = record { refusal = refused r; scalars = kept f r }
