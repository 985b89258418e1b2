-- `countsketch_l2_norm::straight::update_five_at` meets its contract.
use Prim.Native.Nat.{ℕ}
use mathlib.Core.Path.{◌∙◌}
use mathlib.Core.List.{List, [], ◌∷◌}
use lib.IntN.{ℤ}
use native.Mathlib.Omega.{arith}
use borrow.Author.Rules.{sfits_of}
use mir.Syntax.{w64}
use mir.Val.{to_z, of_z}
use mir.Facts.{to_z-of_z}
use Rattle.countsketch_l2_norm.proofs.Filled.{Counted, count-start, count_more, count_done, row_asks}
use Rattle.matrix_storage.specs.Bits.{hash_of}
use Rattle.countsketch_l2_norm.proofs.straight.update_five_at.Goals as goal
use Rattle.countsketch_l2_norm.proofs.straight.update_five_at.Goals.{After-update_row-u, After-update_row-v, After-update_row-x, After-update_row-y, After-update_row-z, Start}

-- what stands after so many rows, with their estimates
abbrev After : Start → List ℤ → List ℤ → List ℕ → ℕ → Type 0
After c es xs ws r = let a = c.args in Counted 5 a.cols (hash_of c.args.high c.args.low) a.weight a.counters.now a.norms.now es xs ws r

abbrev bits : ℤ → ℤ
bits z = to_z w64 (of_z w64 z)

none : (c : Start) → After c [] c.args.counters.now c.args.norms.now 0
none c = count-start c.requires.ready

one : (c : After-update_row-u) → After c.before.before.before.before (bits c.update_row-u.result ∷ []) c.update_row-u.new.counters c.update_row-u.new.norms 1
one c = count_more c.requires.ready c.requires.a_value.0 (none c.before.before.before.before) (omega arith) c.update_row-u.type_inv c.update_row-u.ensures

two : (c : After-update_row-v) → After c.before.before.before.before.before.before.before.before.before.before (bits c.update_row-u.result ∷ bits c.update_row-v.result ∷ []) c.update_row-v.new.counters c.update_row-v.new.norms 2
two c = count_more c.requires.ready c.requires.a_value.1.0 (one c.before.before.before.before.before.before) (omega arith) c.update_row-v.type_inv c.update_row-v.ensures

three : (c : After-update_row-x) → After c.before.before.before.before.before.before.before.before.before.before.before.before.before.before.before.before (bits c.update_row-u.result ∷ bits c.update_row-v.result ∷ bits c.update_row-x.result ∷ []) c.update_row-x.new.counters c.update_row-x.new.norms 3
three c = count_more c.requires.ready c.requires.a_value.1.1.0 (two c.before.before.before.before.before.before) (omega arith) c.update_row-x.type_inv c.update_row-x.ensures

four : (c : After-update_row-y) → After c.before.before.before.before.before.before.before.before.before.before.before.before.before.before.before.before.before.before.before.before.before.before (bits c.update_row-u.result ∷ bits c.update_row-v.result ∷ bits c.update_row-x.result ∷ bits c.update_row-y.result ∷ []) c.update_row-y.new.counters c.update_row-y.new.norms 4
four c = count_more c.requires.ready c.requires.a_value.1.1.1.0 (three c.before.before.before.before.before.before) (omega arith) c.update_row-y.type_inv c.update_row-y.ensures

five : (c : After-update_row-z) → After c.before.before.before.before.before.before.before.before.before.before.before.before.before.before.before.before.before.before.before.before.before.before.before.before.before.before.before.before (bits c.update_row-u.result ∷ bits c.update_row-v.result ∷ bits c.update_row-x.result ∷ bits c.update_row-y.result ∷ bits c.update_row-z.result ∷ []) c.update_row-z.new.counters c.update_row-z.new.norms 5
five c = count_more c.requires.ready c.requires.a_value.1.1.1.1 (four c.before.before.before.before.before.before) (omega arith) c.update_row-z.type_inv c.update_row-z.ensures

pub update_row-u-requires : goal.update_row-u-requires
update_row-u-requires c =
    let t = row_asks c.requires.ready c.requires.a_value.0 (none (goal.at.update_row-u-requires c).Start).going (omega arith) in
    record {
      r_lt_max_rows = t.0;
      cell_ready = t.1;
    }

pub update_row-v-requires : goal.update_row-v-requires
update_row-v-requires c =
    let t = row_asks c.requires.ready c.requires.a_value.1.0 (one (goal.at.update_row-v-requires c).After-update_row-u).going (omega arith) in
    record {
      r_lt_max_rows = t.0;
      cell_ready = t.1;
    }

pub update_row-x-requires : goal.update_row-x-requires
update_row-x-requires c =
    let t = row_asks c.requires.ready c.requires.a_value.1.1.0 (two (goal.at.update_row-x-requires c).After-update_row-v).going (omega arith) in
    record {
      r_lt_max_rows = t.0;
      cell_ready = t.1;
    }

pub update_row-y-requires : goal.update_row-y-requires
update_row-y-requires c =
    let t = row_asks c.requires.ready c.requires.a_value.1.1.1.0 (three (goal.at.update_row-y-requires c).After-update_row-x).going (omega arith) in
    record {
      r_lt_max_rows = t.0;
      cell_ready = t.1;
    }

pub update_row-z-requires : goal.update_row-z-requires
update_row-z-requires c =
    let t = row_asks c.requires.ready c.requires.a_value.1.1.1.1 (four (goal.at.update_row-z-requires c).After-update_row-y).going (omega arith) in
    record {
      r_lt_max_rows = t.0;
      cell_ready = t.1;
    }

pub shape_of-counters : goal.shape_of-counters
shape_of-counters c = (five (goal.at.shape_of-counters c).After-update_row-z).going.same_cells

pub shape_of-norms : goal.shape_of-norms
shape_of-norms c = (five (goal.at.shape_of-norms c).After-update_row-z).going.same_words

pub returns : goal.returns
returns c =
    let t = count_done (five (goal.at.returns c).After-update_row-z) (to_z-of_z {w = w64} (sfits_of c.median_of_five.type_inv) ∙ c.median_of_five.ensures) in
    record {
      norms_after = t.0;
      value = t.1;
    }
