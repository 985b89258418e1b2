-- `countsketch_l2_norm::update::update_row` meets its contract.
use Prim.Native.Nat.{ℕ, ◌≤◌, ◌<◌}
use mathlib.Core.Path.{◌≡◌, sym, ap, subst, ◌∙◌}
use mathlib.Core.List.{List}
use lib.ListN.{length, set, length-set}
use lib.Seq.{get_or-set_same}
use lib.IntN.{ℤ, pos, nat_abs, ◌+ℤ◌}
use borrow.Author.Rules.{sfits_of}
use mir.Syntax.{w64}
use mir.Val.{to_z, of_z}
use mir.Facts.{to_z-of_z}
use Rattle.countsketch_l2_norm.specs.Sketch.{cell_at}
use Rattle.words.specs.Num.{top}
use Rattle.matrix_storage.specs.Bits.{signed, hash_of}
use Rattle.countsketch_l2_norm.proofs.update.update_row.Goals as goal
use Rattle.countsketch_l2_norm.proofs.update.update_row.Goals.{After-add_cell, After-delta_at-delta, Start}

delta_is : (c : After-delta_at-delta) → to_z w64 (of_z w64 c.delta_at-delta.result) ≡ signed (hash_of c.args.high c.args.low) c.args.r (pos c.args.weight)
delta_is c = to_z-of_z {w = w64} (sfits_of c.delta_at-delta.type_inv) ∙ c.delta_at-delta.ensures

abbrev sum : Start → ℤ
sum c = let a = c.args in cell_at a.counters.now a.at +ℤ signed (hash_of c.args.high c.args.low) a.r (pos a.weight)

stored : (c : After-add_cell) → c.add_cell.new.counters ≡ set c.args.counters.now c.args.at (cell_at c.args.counters.now c.args.at +ℤ signed (hash_of c.args.high c.args.low) c.args.r (pos c.args.weight))
stored c =
    let d : to_z w64 (of_z w64 c.delta_at-delta.result) ≡ signed (hash_of c.args.high c.args.low) c.args.r (pos c.args.weight) = to_z-of_z {w = w64} (sfits_of c.delta_at-delta.type_inv) ∙ c.delta_at-delta.ensures in
    rw d at c.add_cell.ensures.counters_after

pub delta_at-delta-requires : goal.delta_at-delta-requires
delta_at-delta-requires c = c.requires.r_lt_max_rows

pub add_cell-requires : goal.add_cell-requires
add_cell-requires c = rw (delta_is (goal.at.add_cell-requires c).After-delta_at-delta) c.requires.cell_ready

pub row_estimate-requires : goal.row_estimate-requires
row_estimate-requires c =
    let a = c.args in
    let p = c.requires.cell_ready in
    let e = stored (goal.at.row_estimate-requires c).After-add_cell in
    let wide : length c.add_cell.new.counters ≡ length a.counters.now = ap length e ∙ length-set a.counters.now a.at (sum (goal.at.row_estimate-requires c).Start) in
    let here : cell_at c.add_cell.new.counters a.at ≡ sum (goal.at.row_estimate-requires c).Start = ap (λ (l : List ℤ). cell_at l a.at) e ∙ get_or-set_same a.counters.now a.at (sum (goal.at.row_estimate-requires c).Start) (pos 0) p.inside in
    record {
      r_lt_max_rows = (p.few, subst (λ (n : ℕ). a.at < n) (sym wide) p.inside);
      at_bound = subst (λ (z : ℤ). nat_abs z ≤ top) (sym here) p.sum_in;
    }

pub returns : goal.returns
returns c =
    record {
      cells = stored (goal.at.returns c).After-add_cell;
      norms = rw (delta_is (goal.at.returns c).After-delta_at-delta) at c.add_cell.ensures.norms_after;
      estimate = to_z-of_z {w = w64} (sfits_of c.row_estimate.type_inv) ∙ c.row_estimate.ensures;
    }
