-- `countsketch_l2_norm::straight::update_five_if_ready` meets its contract.
use mir.Syntax.{w64}
use Prim.Native.Nat.{ℕ}
use native.Mathlib.Omega.{arith}
use borrow.Author.Rules.{sfits_of}
use mir.Facts.{to_z-of_z}
use Rattle.countsketch_l2_norm.proofs.Tried.{Judging, judge-start, judge_asks, judge_on, judge_stop, judge_end, ready_of, made-not, made_done}
use Rattle.matrix_storage.specs.Bits.{hash_of}
use native.Mathlib.Nat.{le_refl}
use Rattle.countsketch_l2_norm.proofs.straight.update_five_if_ready.Goals as goal
use Rattle.countsketch_l2_norm.proofs.straight.update_five_if_ready.Goals.{Else-not-row_ready_at, Else-not-row_ready_at-2, Else-not-row_ready_at-3, Else-not-row_ready_at-4, Else-not-row_ready_at-5, Start}

-- so many rows say yes
abbrev Passed : Start → ℕ → Type 0
Passed c r = let a = c.args in Judging 5 a.cols (hash_of c.args.high c.args.low) a.weight a.counters.now a.norms.now r

none : (c : Start) → Passed c 0
none c = judge-start (c.requires.shaped, c.requires.cols_in_bounds)

one : (c : Else-not-row_ready_at) → Passed c.before.before.before.before.before.before.before.before.before 1
one c = judge_on (none c.before.before.before.before.before.before.before.before.before) c.place-a.ensures (omega arith) c.row_ready_at.ensures c.if-not-row_ready_at.false

two : (c : Else-not-row_ready_at-2) → Passed c.before.before.before.before.before.before.before.before.before.before.before 2
two c = judge_on (one c.before.before) c.place-b.ensures (omega arith) c.row_ready_at-2.ensures c.if-not-row_ready_at-2.false

three : (c : Else-not-row_ready_at-3) → Passed c.before.before.before.before.before.before.before.before.before.before.before.before.before 3
three c = judge_on (two c.before.before) c.place-c.ensures (omega arith) c.row_ready_at-3.ensures c.if-not-row_ready_at-3.false

four : (c : Else-not-row_ready_at-4) → Passed c.before.before.before.before.before.before.before.before.before.before.before.before.before.before.before 4
four c = judge_on (three c.before.before) c.place-d.ensures (omega arith) c.row_ready_at-4.ensures c.if-not-row_ready_at-4.false

five : (c : Else-not-row_ready_at-5) → Passed c.before.before.before.before.before.before.before.before.before.before.before.before.before.before.before.before.before 5
five c = judge_on (four c.before.before) c.place-e.ensures (omega arith) c.row_ready_at-5.ensures c.if-not-row_ready_at-5.false

pub row_ready_at-requires : goal.row_ready_at-requires
row_ready_at-requires c =
    let t = judge_asks (none (goal.at.row_ready_at-requires c).Start) c.place-a.ensures (omega arith) in
    record {
      r_lt_max_rows = t.0;
      at_in_bounds = t.1;
    }

pub returns-then-not-row_ready_at : goal.returns-then-not-row_ready_at
returns-then-not-row_ready_at c = made-not (judge_stop (none (goal.at.returns-then-not-row_ready_at c).Start) c.place-a.ensures (omega arith) c.row_ready_at.ensures c.if-not-row_ready_at.true)

pub row_ready_at-requires-2 : goal.row_ready_at-requires-2
row_ready_at-requires-2 c =
    let t = judge_asks (one (goal.at.row_ready_at-requires-2 c).Else-not-row_ready_at) c.place-b.ensures (omega arith) in
    record {
      r_lt_max_rows = t.0;
      at_in_bounds = t.1;
    }

pub returns-then-not-row_ready_at-2 : goal.returns-then-not-row_ready_at-2
returns-then-not-row_ready_at-2 c = made-not (judge_stop (one (goal.at.returns-then-not-row_ready_at-2 c).Else-not-row_ready_at) c.place-b.ensures (omega arith) c.row_ready_at-2.ensures c.if-not-row_ready_at-2.true)

pub row_ready_at-requires-3 : goal.row_ready_at-requires-3
row_ready_at-requires-3 c =
    let t = judge_asks (two (goal.at.row_ready_at-requires-3 c).Else-not-row_ready_at-2) c.place-c.ensures (omega arith) in
    record {
      r_lt_max_rows = t.0;
      at_in_bounds = t.1;
    }

pub returns-then-not-row_ready_at-3 : goal.returns-then-not-row_ready_at-3
returns-then-not-row_ready_at-3 c = made-not (judge_stop (two (goal.at.returns-then-not-row_ready_at-3 c).Else-not-row_ready_at-2) c.place-c.ensures (omega arith) c.row_ready_at-3.ensures c.if-not-row_ready_at-3.true)

pub row_ready_at-requires-4 : goal.row_ready_at-requires-4
row_ready_at-requires-4 c =
    let t = judge_asks (three (goal.at.row_ready_at-requires-4 c).Else-not-row_ready_at-3) c.place-d.ensures (omega arith) in
    record {
      r_lt_max_rows = t.0;
      at_in_bounds = t.1;
    }

pub returns-then-not-row_ready_at-4 : goal.returns-then-not-row_ready_at-4
returns-then-not-row_ready_at-4 c = made-not (judge_stop (three (goal.at.returns-then-not-row_ready_at-4 c).Else-not-row_ready_at-3) c.place-d.ensures (omega arith) c.row_ready_at-4.ensures c.if-not-row_ready_at-4.true)

pub row_ready_at-requires-5 : goal.row_ready_at-requires-5
row_ready_at-requires-5 c =
    let t = judge_asks (four (goal.at.row_ready_at-requires-5 c).Else-not-row_ready_at-4) c.place-e.ensures (omega arith) in
    record {
      r_lt_max_rows = t.0;
      at_in_bounds = t.1;
    }

pub returns-then-not-row_ready_at-5 : goal.returns-then-not-row_ready_at-5
returns-then-not-row_ready_at-5 c = made-not (judge_stop (four (goal.at.returns-then-not-row_ready_at-5 c).Else-not-row_ready_at-4) c.place-e.ensures (omega arith) c.row_ready_at-5.ensures c.if-not-row_ready_at-5.true)

pub update_five_at-requires : goal.update_five_at-requires
update_five_at-requires c = record {
  ready = ready_of (c.requires.shaped, c.requires.cols_in_bounds) (judge_end (five (goal.at.update_five_at-requires c).Else-not-row_ready_at-5) (le_refl 5));
  a_value = (c.place-a.ensures, (c.place-b.ensures, (c.place-c.ensures, (c.place-d.ensures, c.place-e.ensures))));
}

pub returns : goal.returns
returns c =
    let u = c.update_five_at in
    made_done (judge_end (five (goal.at.returns c).Else-not-row_ready_at-5) (le_refl 5)) (to_z-of_z {w = w64} (sfits_of u.type_inv)) u.type_inv (u.ensures.norms_after, u.ensures.value)
