-- `univmon::stages::check_sizes` meets its contract.
use mathlib.Core.Path.{◌≡◌, sym, ◌∙◌}
use mathlib.Core.Bool.{true}
use borrow.Author.Tests.{eq-eqb, ne_eqb}
use Rattle.header.specs.Shape.{max_layers}
use Rattle.header.specs.Header.{header_ok, head_of}
use Rattle.header.proofs.Ranges.{ranged_of}
use Rattle.layout.specs.Slices.{lengths_ok}
use Rattle.header.specs.declared.Header.{Header}
use Rattle.univmon.proofs.stages.check_sizes.Goals as goal
use Rattle.univmon.proofs.stages.check_sizes.Goals.{Else-not-fields_in_range, Else-not-lengths_match, Start}

-- the header of what is lent
abbrev head-of : Start → Header
head-of c = head_of c.args.scalars c.args.lens.now c.args.flags.now

-- the header was found in range, or not
ranged : (c : Else-not-fields_in_range) → header_ok ((head_of c.args.scalars c.args.lens.now c.args.flags.now)) ≡ true
ranged c = sym (c.fields_in_range.ensures c.args.scalars.mode) ∙ c.if-not-fields_in_range.false

-- the lengths were found right
sized : (c : Else-not-lengths_match) → let a = c.args in lengths_ok a.scalars.shape a.counters a.norms a.entries a.counts ≡ true
sized c = sym c.lengths_match.ensures ∙ c.if-not-lengths_match.false

pub returns-then-lens-ne-MAX_LAYERS : goal.returns-then-lens-ne-MAX_LAYERS
returns-then-lens-ne-MAX_LAYERS c = rw (ne_eqb _ max_layers c.if-lens-ne-MAX_LAYERS.true)

pub returns-then-flags-ne-MAX_LAYERS : goal.returns-then-flags-ne-MAX_LAYERS
returns-then-flags-ne-MAX_LAYERS c = rw (eq-eqb _ max_layers c.if-lens-ne-MAX_LAYERS.false, ne_eqb _ max_layers c.if-flags-ne-MAX_LAYERS.true)

pub fields_in_range-requires : goal.fields_in_range-requires
fields_in_range-requires c = (c.if-lens-ne-MAX_LAYERS.false, c.if-flags-ne-MAX_LAYERS.false)

pub returns-then-not-fields_in_range : goal.returns-then-not-fields_in_range
returns-then-not-fields_in_range c = rw (eq-eqb _ max_layers c.if-lens-ne-MAX_LAYERS.false, eq-eqb _ max_layers c.if-flags-ne-MAX_LAYERS.false, sym (c.fields_in_range.ensures c.args.scalars.mode) ∙ c.if-not-fields_in_range.true)

pub lengths_match-requires : goal.lengths_match-requires
lengths_match-requires c = (ranged_of (head-of (goal.at.lengths_match-requires c).Start) (ranged (goal.at.lengths_match-requires c).Else-not-fields_in_range)).accepted

pub returns-then-not-lengths_match : goal.returns-then-not-lengths_match
returns-then-not-lengths_match c = rw (eq-eqb _ max_layers c.if-lens-ne-MAX_LAYERS.false, eq-eqb _ max_layers c.if-flags-ne-MAX_LAYERS.false, ranged (goal.at.returns-then-not-lengths_match c).Else-not-fields_in_range, sym c.lengths_match.ensures ∙ c.if-not-lengths_match.true)

pub returns : goal.returns
returns c = rw (eq-eqb _ max_layers c.if-lens-ne-MAX_LAYERS.false, eq-eqb _ max_layers c.if-flags-ne-MAX_LAYERS.false, ranged (goal.at.returns c).Else-not-fields_in_range, sized (goal.at.returns c).Else-not-lengths_match)
