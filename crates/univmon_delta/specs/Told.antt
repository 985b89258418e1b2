-- "The old true or false follows from them.": what the list of a delta decides.
use Rattle.std.specs.Prelude.{◌≡◌, List, ℕ}
use Rattle.header.specs.Header.{Headed}
use Rattle.layout.specs.Slices.{Lent, view}
use Rattle.layout.specs.Outcomes.{Outcome}
use Rattle.layout.specs.Answers.{Decides}
use Rattle.univmon_delta.specs.Deltas.{Arrival, every_insert, delta_answers, delta_call}

-- of every layer, its length and its flag after an accepted delta; the proof stands in proofs/Told.antt, `delta_decides`
abbrev pub DeltaDecides : Type 0
DeltaDecides =
    (r t : Lent) (words : List ℕ) (a : Arrival) → Headed r.head → delta_call r words a ≡ Outcome.yes t
    → Decides (every_insert a.fidelity) (delta_answers (view r) words a) r.head t.head
