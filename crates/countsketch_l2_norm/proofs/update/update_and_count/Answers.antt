-- `countsketch_l2_norm::update::update_and_count` meets its contract.
use mir.Syntax.{w64}
use mathlib.Core.Path.{◌≡◌, refl, ap, ◌∙◌}
use mathlib.Core.Bool.{true}
use borrow.Author.Rules.{sfits_of}
use mir.Facts.{to_z-of_z}
use Rattle.countsketch_l2_norm.proofs.After.{fit-after}
use Rattle.countsketch_l2_norm.proofs.Estimates.{counted_in, counted}
use Rattle.countsketch_l2_norm.specs.inner.Needs.{sketch_of}
use Rattle.countsketch_l2_norm.specs.Sketch.{Sketch}
use Rattle.countsketch_l2_norm.specs.Estimate.{cells_in_range}
use Rattle.matrix_storage.specs.Bits.{hash_of}
use native.Mathlib.Nat.{zero-add}
use Rattle.countsketch_l2_norm.proofs.update.update_and_count.Goals as goal
use Rattle.countsketch_l2_norm.proofs.update.update_and_count.Goals.{After-update_rows, Start}

-- the counters after the update are in range
cells-after : (c : After-update_rows) → cells_in_range c.args.cols (hash_of c.args.high c.args.low) c.update_rows.new.counters c.args.rows 0 ≡ true
cells-after c =
    let a = c.args in
    let p = c.requires in
    ap (λ (s : Sketch). cells_in_range a.cols (hash_of c.args.high c.args.low) s.cells a.rows 0) c.update_rows.ensures.rows_after
    ∙ fit-after a.cols (hash_of c.args.high c.args.low) a.weight a.rows 0 (sketch_of a.counters.now a.norms.now a.rows) p.shaped.some (rw (zero-add a.rows) p.room) p.fit

pub update_five-requires : goal.update_five-requires
update_five-requires c = rw c.if-rows-eq5.true at c.requires

pub returns-then-rows-eq5 : goal.returns-then-rows-eq5
returns-then-rows-eq5 c =
    let u = c.update_five in
    rw c.if-rows-eq5.true (record {
      rows_after = u.ensures.norms_after;
      value = to_z-of_z {w = w64} (sfits_of u.type_inv) ∙ u.ensures.value;
    })

pub update_three-requires : goal.update_three-requires
update_three-requires c = rw c.if-rows-eq3.true at c.requires

pub returns-then-rows-eq3 : goal.returns-then-rows-eq3
returns-then-rows-eq3 c =
    let u = c.update_three in
    rw c.if-rows-eq3.true (record {
      rows_after = u.ensures.norms_after;
      value = to_z-of_z {w = w64} (sfits_of u.type_inv) ∙ u.ensures.value;
    })

pub update_rows-requires : goal.update_rows-requires
update_rows-requires c = record {
  buf_len = refl;
  ready = c.requires;
}

pub median_of-requires : goal.median_of-requires
median_of-requires c =
    let a = c.args in
    record {
      le_n = (c.requires.shaped.tall, c.requires.shaped.few);
      buf_len = c.update_rows.ensures.buf_len_2;
      buf_value = counted_in a.rows a.cols (hash_of c.args.high c.args.low) _ _ c.update_rows.ensures.buf_after (cells-after (goal.at.median_of-requires c).After-update_rows);
    }

pub returns : goal.returns
returns c =
    let a = c.args in
    record {
      rows_after = c.update_rows.ensures.rows_after;
      value = to_z-of_z {w = w64} (sfits_of c.median_of.type_inv) ∙ c.median_of.ensures ∙ counted a.rows a.cols (hash_of c.args.high c.args.low) _ _ c.update_rows.ensures.buf_after;
    }
