-- "The old true or false follows from them.": what the list of an update decides.
use Rattle.std.specs.Prelude.{◌≡◌, true, List, ℕ, ℤ}
use Rattle.header.specs.Header.{Headed}
use Rattle.layout.specs.Slices.{Lent, view}
use Rattle.layout.specs.Outcomes.{Outcome}
use Rattle.layout.specs.Answers.{Decides}
use Rattle.univmon.specs.declared.Kind.{Kind}
use Rattle.univmon.specs.Updates.{update_answers}
use Rattle.univmon.specs.Calls.{update_call}

-- of every layer, its length and its flag after an accepted update; the proof stands in proofs/Told.antt, `update_decides`
abbrev pub UpdateDecides : Type 0
UpdateDecides =
    (k : Kind) (r t : Lent) (words : List ℕ) (w : ℤ) → Headed r.head → update_call k r words w ≡ Outcome.yes t
    → Decides true (update_answers k (view r) words w) r.head t.head
