-- `countsketch_ahead::straight::five_at` meets its contract.
use mir.Syntax.{w64}
use mathlib.Core.Path.{sym, ap, ◌∙◌}
use mathlib.Core.List.{List}
use lib.IntN.{ℤ}
use native.Mathlib.Omega.{arith}
use borrow.Author.Rules.{sfits_of}
use mir.Facts.{to_z-of_z}
use Rattle.matrix_storage.specs.Bits.{hash_of}
use Rattle.structure_utils.specs.Median.{sort_z, middle}
use Rattle.countsketch_ahead.proofs.Ahead.{ahead_none}
use Rattle.countsketch_ahead.proofs.Told.{row_asks, ahead_before}
use Rattle.countsketch_ahead.proofs.straight.five_at.Goals as goal

pub row_ahead-u-requires : goal.row_ahead-u-requires
row_ahead-u-requires c = record {
  weight_le_top = omega (arith, c.requires.countable.light);
  r_lt_max_rows = row_asks c.requires.countable c.requires.a_value.0 (omega arith);
}

pub row_ahead-v-requires : goal.row_ahead-v-requires
row_ahead-v-requires c = record {
  weight_le_top = omega (arith, c.requires.countable.light);
  r_lt_max_rows = row_asks c.requires.countable c.requires.a_value.1.0 (omega arith);
}

pub row_ahead-x-requires : goal.row_ahead-x-requires
row_ahead-x-requires c = record {
  weight_le_top = omega (arith, c.requires.countable.light);
  r_lt_max_rows = row_asks c.requires.countable c.requires.a_value.1.1.0 (omega arith);
}

pub row_ahead-y-requires : goal.row_ahead-y-requires
row_ahead-y-requires c = record {
  weight_le_top = omega (arith, c.requires.countable.light);
  r_lt_max_rows = row_asks c.requires.countable c.requires.a_value.1.1.1.0 (omega arith);
}

pub row_ahead-z-requires : goal.row_ahead-z-requires
row_ahead-z-requires c = record {
  weight_le_top = omega (arith, c.requires.countable.light);
  r_lt_max_rows = row_asks c.requires.countable c.requires.a_value.1.1.1.1 (omega arith);
}

pub returns : goal.returns
returns c =
    let a = c.args in
    let h = hash_of a.high a.low in
    let xs = a.counters.now in
    to_z-of_z {w = w64} (sfits_of c.median_of_five.type_inv) ∙ c.median_of_five.ensures
    ∙ ap (λ (l : List ℤ). middle (sort_z l))
    (ahead_before a.cols h a.weight xs 4 0 c.requires.a_value.0 c.row_ahead-u.type_inv c.row_ahead-u.ensures
    (ahead_before a.cols h a.weight xs 3 1 c.requires.a_value.1.0 c.row_ahead-v.type_inv c.row_ahead-v.ensures
    (ahead_before a.cols h a.weight xs 2 2 c.requires.a_value.1.1.0 c.row_ahead-x.type_inv c.row_ahead-x.ensures
    (ahead_before a.cols h a.weight xs 1 3 c.requires.a_value.1.1.1.0 c.row_ahead-y.type_inv c.row_ahead-y.ensures
    (ahead_before a.cols h a.weight xs 0 4 c.requires.a_value.1.1.1.1 c.row_ahead-z.type_inv c.row_ahead-z.ensures
    (sym (ahead_none a.cols h a.weight xs 5)))))))
