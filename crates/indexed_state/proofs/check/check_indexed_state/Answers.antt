-- `indexed_state::check::check_indexed_state` meets its contract.
use mathlib.Core.Path.{◌≡◌, sym, ◌∙◌}
use mathlib.Core.Bool.{true}
use lib.ListN.{length}
use borrow.Author.Tests.{eqb-true, eqb-false}
use Rattle.words.proofs.Bools.{never}
use Rattle.layout.specs.Slices.{Lent, lent}
use Rattle.layout_index.specs.Tables.{tables_in}
use Rattle.state_check.specs.Check.{state_ok}
use Rattle.state_check.proofs.WholeStates.{ok-standing}
use Rattle.indexed_state.proofs.Parted.{indexed-state, indexed_length, indexed_tables}
use Rattle.indexed_state.proofs.check.check_indexed_state.Goals as goal
use Rattle.indexed_state.proofs.check.check_indexed_state.Goals.{Start, Then-index-tables_in, then-check_state, else-check_state}

-- the state that is lent
abbrev lent_of : Start → Lent
lent_of c = lent c.args.header c.args.counters.now c.args.norms.now c.args.entries.now c.args.counts.now

-- the state passes, and its index has the right length
passed : (c : Then-index-tables_in) → (state_ok (lent_of (goal.at.Then-index-tables_in c).Start) ≡ true) × (length c.args.index.now ≡ tables_in c.args.header.shape)
passed c =
    elim c.if-check_state.branch [
      | then-check_state w ↦ (sym c.check_state.ensures ∙ w.if-check_state.true, eqb-true _ _ (sym w.value-is ∙ c.if-index-tables_in.true) ∙ w.tables_in.ensures)
      | else-check_state w ↦ absurd (never (sym (w.value-is ∙ w.if-check_state.false) ∙ c.if-index-tables_in.true))
    ]

pub tables_in-requires : goal.tables_in-requires
tables_in-requires c = (ok-standing (lent_of (goal.at.tables_in-requires c).Start) (sym c.check_state.ensures ∙ c.if-check_state.true)).accepted

pub tables_ok-requires : goal.tables_ok-requires
tables_ok-requires c = let p = passed (goal.at.tables_ok-requires c).Then-index-tables_in in record { standing = ok-standing (lent_of (goal.at.tables_ok-requires c).Start) p.0; tables = p.1 }

pub returns-then-index-tables_in : goal.returns-then-index-tables_in
returns-then-index-tables_in c =
    let p = passed (goal.at.returns-then-index-tables_in c).Then-index-tables_in in
    indexed_tables (lent_of (goal.at.returns-then-index-tables_in c).Start) c.args.index.now _ p.0 p.1 c.tables_ok.ensures

pub returns-else-index-tables_in : goal.returns-else-index-tables_in
returns-else-index-tables_in c =
    let r = lent_of (goal.at.returns-else-index-tables_in c).Start in
    elim c.if-check_state.branch [
      | then-check_state w ↦
          c.if-index-tables_in.false
          ∙ indexed_length r c.args.index.now (sym c.check_state.ensures ∙ w.if-check_state.true) (λ z. eqb-false _ _ (sym w.value-is ∙ c.if-index-tables_in.false) (z ∙ sym w.tables_in.ensures))
      | else-check_state w ↦ c.if-index-tables_in.false ∙ indexed-state r c.args.index.now (sym c.check_state.ensures ∙ w.if-check_state.false)
    ]
