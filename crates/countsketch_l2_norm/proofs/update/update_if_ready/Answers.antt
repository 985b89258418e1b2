-- `countsketch_l2_norm::update::update_if_ready` meets its contract.
use mir.Syntax.{w64}
use mathlib.Core.Path.{◌≡◌, sym, ◌∙◌}
use mathlib.Core.Bool.{true}
use borrow.Author.Rules.{sfits_of}
use mir.Facts.{to_z-of_z}
use Rattle.countsketch_l2_norm.proofs.Tried.{ready_of, made-not, made_done}
use Rattle.countsketch_l2_norm.specs.inner.Needs.{sketch_of, rows_ready}
use Rattle.matrix_storage.specs.Bits.{hash_of}
use Rattle.countsketch_l2_norm.proofs.update.update_if_ready.Goals as goal
use Rattle.countsketch_l2_norm.proofs.update.update_if_ready.Goals.{Else-not-rows_ready}

-- every row says yes
ready : (c : Else-not-rows_ready) → let a = c.args in true ≡ rows_ready a.cols (hash_of a.high a.low) a.weight (sketch_of a.counters.now a.norms.now a.rows) a.rows 0
ready c = sym c.if-not-rows_ready.false ∙ c.rows_ready.ensures

pub update_three_if_ready-requires : goal.update_three_if_ready-requires
update_three_if_ready-requires c =
    record {
      shaped = rw c.if-rows-eq3.true at c.requires.shaped;
      cols_in_bounds = rw c.if-rows-eq3.true at c.requires.cols_in_bounds;
    }

pub returns-then-rows-eq3 : goal.returns-then-rows-eq3
returns-then-rows-eq3 c = rw c.if-rows-eq3.true c.update_three_if_ready.ensures

pub update_five_if_ready-requires : goal.update_five_if_ready-requires
update_five_if_ready-requires c =
    record {
      shaped = rw c.if-rows-eq5.true at c.requires.shaped;
      cols_in_bounds = rw c.if-rows-eq5.true at c.requires.cols_in_bounds;
    }

pub returns-then-rows-eq5 : goal.returns-then-rows-eq5
returns-then-rows-eq5 c = rw c.if-rows-eq5.true c.update_five_if_ready.ensures

pub returns-then-not-rows_ready : goal.returns-then-not-rows_ready
returns-then-not-rows_ready c = made-not (sym c.if-not-rows_ready.true ∙ c.rows_ready.ensures)

pub update_and_count-requires : goal.update_and_count-requires
update_and_count-requires c = ready_of (c.requires.shaped, c.requires.cols_in_bounds) (ready (goal.at.update_and_count-requires c).Else-not-rows_ready)

pub returns : goal.returns
returns c =
    let u = c.update_and_count in
    made_done (ready (goal.at.returns c).Else-not-rows_ready) (to_z-of_z {w = w64} (sfits_of u.type_inv)) u.type_inv (u.ensures.rows_after, u.ensures.value)
