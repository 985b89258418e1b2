-- `countsketch_ahead::straight::three_if_ready` meets its contract.
use mir.Syntax.{w64}
use native.Mathlib.Omega.{arith}
use borrow.Author.Rules.{sfits_of}
use mir.Facts.{to_z-of_z}
use Rattle.matrix_storage.specs.Bits.{hash_of}
use Rattle.countsketch_l2_norm.proofs.Tried.{Judging, judge-start, judge_asks, judge_on, judge_stop, judge_end, ready_of}
use Rattle.countsketch_ahead.specs.inner.Needs.{Countable}
use Rattle.countsketch_ahead.proofs.Told.{countable_of, told-not, told-count}
use native.Mathlib.Nat.{le_refl}
use Rattle.countsketch_ahead.proofs.straight.three_if_ready.Goals as goal
use Rattle.countsketch_ahead.proofs.straight.three_if_ready.Goals.{Else-not-row_ready_at, Else-not-row_ready_at-2, Else-not-row_ready_at-3, Start}

-- so many rows say yes
none : (c : Start) → let a = c.args in Judging 3 a.cols (hash_of a.high a.low) a.weight a.counters.now a.norms.now 0
none c = judge-start (c.requires.shaped, c.requires.cols_in_bounds)

one : (c : Else-not-row_ready_at) → let a = c.args in Judging 3 a.cols (hash_of a.high a.low) a.weight a.counters.now a.norms.now 1
one c = judge_on (judge-start (c.requires.shaped, c.requires.cols_in_bounds)) c.place-a.ensures (omega arith) c.row_ready_at.ensures c.if-not-row_ready_at.false

two : (c : Else-not-row_ready_at-2) → let a = c.args in Judging 3 a.cols (hash_of a.high a.low) a.weight a.counters.now a.norms.now 2
two c =
    let one = judge_on (judge-start (c.requires.shaped, c.requires.cols_in_bounds)) c.place-a.ensures (omega arith) c.row_ready_at.ensures c.if-not-row_ready_at.false in
    judge_on one c.place-b.ensures (omega arith) c.row_ready_at-2.ensures c.if-not-row_ready_at-2.false

three : (c : Else-not-row_ready_at-3) → let a = c.args in Judging 3 a.cols (hash_of a.high a.low) a.weight a.counters.now a.norms.now 3
three c =
    let one = judge_on (judge-start (c.requires.shaped, c.requires.cols_in_bounds)) c.place-a.ensures (omega arith) c.row_ready_at.ensures c.if-not-row_ready_at.false in
    let two = judge_on one c.place-b.ensures (omega arith) c.row_ready_at-2.ensures c.if-not-row_ready_at-2.false in
    judge_on two c.place-c.ensures (omega arith) c.row_ready_at-3.ensures c.if-not-row_ready_at-3.false

-- all of them: the count may be worked out
countable : (c : Else-not-row_ready_at-3) → let a = c.args in Countable 3 a.cols (hash_of c.args.high c.args.low) a.weight a.counters.now
countable c = countable_of (ready_of (c.requires.shaped, c.requires.cols_in_bounds) (judge_end (three c) (le_refl 3)))

pub row_ready_at-requires : goal.row_ready_at-requires
row_ready_at-requires c =
    let t = judge_asks (none (goal.at.row_ready_at-requires c).Start) c.place-a.ensures (omega arith) in
    record {
      r_lt_max_rows = t.0;
      at_in_bounds = t.1;
    }

pub returns-then-not-row_ready_at : goal.returns-then-not-row_ready_at
returns-then-not-row_ready_at c = told-not (judge_stop (none (goal.at.returns-then-not-row_ready_at c).Start) c.place-a.ensures (omega arith) c.row_ready_at.ensures c.if-not-row_ready_at.true)

pub row_ready_at-requires-2 : goal.row_ready_at-requires-2
row_ready_at-requires-2 c =
    let t = judge_asks (one (goal.at.row_ready_at-requires-2 c).Else-not-row_ready_at) c.place-b.ensures (omega arith) in
    record {
      r_lt_max_rows = t.0;
      at_in_bounds = t.1;
    }

pub returns-then-not-row_ready_at-2 : goal.returns-then-not-row_ready_at-2
returns-then-not-row_ready_at-2 c = told-not (judge_stop (one (goal.at.returns-then-not-row_ready_at-2 c).Else-not-row_ready_at) c.place-b.ensures (omega arith) c.row_ready_at-2.ensures c.if-not-row_ready_at-2.true)

pub row_ready_at-requires-3 : goal.row_ready_at-requires-3
row_ready_at-requires-3 c =
    let t = judge_asks (two (goal.at.row_ready_at-requires-3 c).Else-not-row_ready_at-2) c.place-c.ensures (omega arith) in
    record {
      r_lt_max_rows = t.0;
      at_in_bounds = t.1;
    }

pub returns-then-not-row_ready_at-3 : goal.returns-then-not-row_ready_at-3
returns-then-not-row_ready_at-3 c = told-not (judge_stop (two (goal.at.returns-then-not-row_ready_at-3 c).Else-not-row_ready_at-2) c.place-c.ensures (omega arith) c.row_ready_at-3.ensures c.if-not-row_ready_at-3.true)

pub three_at-requires : goal.three_at-requires
three_at-requires c = record {
  countable = countable (goal.at.three_at-requires c).Else-not-row_ready_at-3;
  a_value = (c.place-a.ensures, (c.place-b.ensures, c.place-c.ensures));
}

pub returns : goal.returns
returns c =
    let u = c.three_at in
    told-count (judge_end (three (goal.at.returns c).Else-not-row_ready_at-3) (le_refl 3)) (countable (goal.at.returns c).Else-not-row_ready_at-3) (to_z-of_z {w = w64} (sfits_of u.type_inv)) u.type_inv u.ensures
