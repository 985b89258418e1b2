-- `univmon::fresh::start` meets its contract.
use mathlib.Core.Path.{sym, ◌∙◌}
use native.Mathlib.Omega.{arith}
use borrow.Author.Tests.{eq-eqb}
use Rattle.header.specs.Shape.{shape_refusal}
use Rattle.header.proofs.Refusals.{accepted_of}
use Rattle.univmon.specs.Calls.{new_call}
use Rattle.layout.proofs.Lengths.{sizes_of, zeroed}
use Rattle.univmon.proofs.fresh.start.Goals as goal

pub lengths_match-requires : goal.lengths_match-requires
lengths_match-requires c = accepted_of c.args.shape c.requires

pub returns-then-not-lengths_match : goal.returns-then-not-lengths_match
unfolding new_call
returns-then-not-lengths_match c = simp (eq-eqb (shape_refusal c.args.shape) 0 c.requires, sym c.lengths_match.ensures ∙ c.if-not-lengths_match.true)

pub fresh-requires : goal.fresh-requires
fresh-requires c = omega (arith, (accepted_of c.args.shape c.requires).few)

pub returns : goal.returns
unfolding new_call
returns c =
    let sh = c.args.shape in
    let s = sym c.lengths_match.ensures ∙ c.if-not-lengths_match.false in
    simp (eq-eqb (shape_refusal sh) 0 c.requires, s, c.fresh.ensures, c.zero_all.ensures.counters_after, c.zero_all.ensures.norms_after, c.zero_all.ensures.entries_after, c.zero_all.ensures.counts_after) (zeroed sh _ _ _ _ (sizes_of sh _ _ _ _ s))
