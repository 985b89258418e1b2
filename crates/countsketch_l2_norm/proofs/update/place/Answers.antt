-- `countsketch_l2_norm::update::place` meets its contract.
use Prim.Native.Nat.{ℕ, ◌+◌, ◌*◌}
use mathlib.Core.Path.{ap, ◌∙◌}
use native.Mathlib.Omega.{arith}
use Rattle.matrix_storage.specs.Bits.{hash_of}
use Rattle.matrix_storage.proofs.Cells.{column-lt}
use Rattle.countsketch_l2_norm.proofs.update.place.Goals as goal

pub column_at-col-requires : goal.column_at-col-requires
column_at-col-requires c = record {
  le_cols = (c.requires.le_cols.0, (omega (arith, c.requires.le_cols.1.0), c.requires.le_cols.1.1));
  cols_bound = c.requires.r_lt_max_rows.1;
}

pub index_of-requires : goal.index_of-requires
index_of-requires c = let a = c.args in (c.requires.r_lt_max_rows.0, (c.requires.le_cols.1.0, rw c.column_at-col.ensures (column-lt a.cols (hash_of a.high a.low) a.r c.requires.le_cols.0)))

pub returns : goal.returns
returns c = c.index_of.ensures ∙ ap (λ (n : ℕ). c.args.r * c.args.cols + n) c.column_at-col.ensures
