-- `indexed_state::building::check_build` meets its contract.
use Prim.Native.Nat.{◌*◌}
use mathlib.Core.Path.{◌≡◌, sym, ◌∙◌}
use mathlib.Core.Bool.{true}
use lib.ListN.{length}
use lib.Dec.{eqb}
use borrow.Author.Tests.{eq-eqb, ne_eqb}
use Rattle.header.specs.Header.{header_ok}
use Rattle.header.specs.inner.Accepted.{Accepted}
use Rattle.header.proofs.Ranges.{ranged_of}
use Rattle.layout.specs.Slices.{cands_in}
use Rattle.layout_index.specs.Tables.{tables_in}
use Rattle.indexed_state.proofs.building.check_build.Goals as goal
use Rattle.indexed_state.proofs.building.check_build.Goals.{Else-entries-e, Else-not-in_range}

-- the header was found in range, so its shape is one that is accepted
ranged : (c : Else-not-in_range) → header_ok c.args.header ≡ true
ranged c = sym c.in_range.ensures ∙ c.if-not-in_range.false

accepted : (c : Else-not-in_range) → Accepted c.args.header.shape
accepted c = (ranged_of c.args.header (ranged c)).accepted

-- the entries were found right
sized : (c : Else-entries-e) → let a = c.args in eqb (length a.entries.now) (4 * cands_in a.header.shape) ≡ true
sized c = eq-eqb (length c.args.entries.now) (4 * cands_in c.args.header.shape) (rw c.extent_of-e.ensures at c.if-entries-e.false)

pub returns-then-not-in_range : goal.returns-then-not-in_range
returns-then-not-in_range c = rw (sym c.in_range.ensures ∙ c.if-not-in_range.true)

pub extent_of-e-requires : goal.extent_of-e-requires
extent_of-e-requires c = accepted (goal.at.extent_of-e-requires c).Else-not-in_range

pub returns-then-entries-e : goal.returns-then-entries-e
returns-then-entries-e c = rw (ranged (goal.at.returns-then-entries-e c).Else-not-in_range, ne_eqb (length c.args.entries.now) (4 * cands_in c.args.header.shape) (rw c.extent_of-e.ensures at c.if-entries-e.true))

pub tables_in-requires : goal.tables_in-requires
tables_in-requires c = accepted (goal.at.tables_in-requires c).Else-not-in_range

pub returns-then-index-tables_in : goal.returns-then-index-tables_in
returns-then-index-tables_in c = let a = c.args in rw (ranged (goal.at.returns-then-index-tables_in c).Else-not-in_range, sized (goal.at.returns-then-index-tables_in c).Else-entries-e, ne_eqb a.index (tables_in a.header.shape) (rw c.tables_in.ensures at c.if-index-tables_in.true))

pub returns : goal.returns
returns c = let a = c.args in rw (ranged (goal.at.returns c).Else-not-in_range, sized (goal.at.returns c).Else-entries-e, eq-eqb a.index (tables_in a.header.shape) (rw c.tables_in.ensures at c.if-index-tables_in.false))
