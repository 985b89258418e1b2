-- `state_check::layers::check_state` meets its contract.
use mathlib.Core.Path.{◌≡◌, sym, ◌∙◌}
use mathlib.Core.Bool.{true}
use Rattle.words.proofs.Bools.{never}
use Rattle.header.specs.Header.{header_ok}
use Rattle.header.proofs.Ranges.{ranged_of}
use Rattle.layout.specs.Slices.{lent, lent_ok}
use Rattle.layout.proofs.Lengths.{standing_of}
use Rattle.state_check.specs.Check.{state_ok}
use Rattle.state_check.proofs.layers.check_state.Goals as goal
use Rattle.state_check.proofs.layers.check_state.Goals.{Then-lengths_match, then-in_range, else-in_range}

-- header and lengths were found right
passed : (c : Then-lengths_match) → let a = c.args in (header_ok a.header ≡ true) × (lent_ok (lent a.header a.counters.now a.norms.now a.entries.now a.counts.now) ≡ true)
passed c =
    elim c.if-in_range.branch [
      | then-in_range w ↦ (sym c.in_range.ensures ∙ w.if-in_range.true, sym (w.value-is ∙ w.lengths_match.ensures) ∙ c.if-lengths_match.true)
      | else-in_range w ↦ absurd (never (sym (w.value-is ∙ w.if-in_range.false) ∙ c.if-lengths_match.true))
    ]

pub lengths_match-requires : goal.lengths_match-requires
lengths_match-requires c = (ranged_of c.args.header (sym c.in_range.ensures ∙ c.if-in_range.true)).accepted

pub layers_ok-requires : goal.layers_ok-requires
layers_ok-requires c =
    let a = c.args in
    let p = passed (goal.at.layers_ok-requires c).Then-lengths_match in
    standing_of (lent a.header a.counters.now a.norms.now a.entries.now a.counts.now) p.0 p.1

pub returns-then-lengths_match : goal.returns-then-lengths_match
unfolding state_ok
returns-then-lengths_match c = let p = passed (goal.at.returns-then-lengths_match c).Then-lengths_match in c.layers_ok.ensures ∙ sym (rw (p.0, p.1))

pub returns-else-lengths_match : goal.returns-else-lengths_match
unfolding state_ok
returns-else-lengths_match c =
    elim c.if-in_range.branch [
      | then-in_range w ↦ c.if-lengths_match.false ∙ sym (rw (sym c.in_range.ensures ∙ w.if-in_range.true, sym (w.value-is ∙ w.lengths_match.ensures) ∙ c.if-lengths_match.false))
      | else-in_range w ↦ c.if-lengths_match.false ∙ sym (rw (sym c.in_range.ensures ∙ w.if-in_range.false))
    ]
