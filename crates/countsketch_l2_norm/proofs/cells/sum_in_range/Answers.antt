-- `countsketch_l2_norm::cells::sum_in_range` meets its contract.
use Prim.Native.Nat.{◌^◌, ◌≤◌, ◌<◌}
use mathlib.Core.Path.{◌≡◌, sym, ◌∙◌}
use lib.IntN.{ℤ, pos, nat_abs, neg_ℤ, ◌+ℤ◌, ◌-ℤ◌}
use lib.Signed.{lt_z}
use native.Mathlib.Omega.{arith}
use mir.Syntax.{w64}
use mir.Val.{to_z, of_z}
use mir.Facts.{to_z-of_z}
use Rattle.words.proofs.Signed.{back, fits, abs-add, abs_neg}
use Rattle.words.proofs.Squares.{range_yes, range_no}
use Rattle.words.specs.Num.{top}
use Rattle.words.proofs.Orders.{lt-less, le-less}
use Rattle.countsketch_l2_norm.proofs.cells.sum_in_range.Goals as goal
use Rattle.countsketch_l2_norm.proofs.cells.sum_in_range.Goals.{Start}

-- what a counter leaves of the range's ends stays far within a word
room : (m x : ℤ) → nat_abs m ≤ top → nat_abs x ≤ top → nat_abs (m -ℤ x) < 2 ^ 63
room m x h k = omega (arith, abs-add m (neg_ℤ x), abs_neg x)

-- the first test, on the sum
below : (st : Start) → lt_z (to_z w64 (of_z w64 st.args.d)) (to_z w64 (of_z w64 (neg_ℤ (pos top) -ℤ to_z w64 (of_z w64 st.args.x)))) ≡ lt_z (st.args.x +ℤ st.args.d) (neg_ℤ (pos top))
below st =
    rw (to_z-of_z st.ranges.d, to_z-of_z st.ranges.x, back (neg_ℤ (pos top) -ℤ st.args.x) (room (neg_ℤ (pos top)) st.args.x (omega arith) st.requires))
    (lt-less st.args.x st.args.d (neg_ℤ (pos top)))

pub overflow_sub-x : goal.overflow_sub-x
overflow_sub-x c =
    let st = (goal.at.overflow_sub-x c).Start in
    rw (to_z-of_z st.ranges.x) (fits _ (room (neg_ℤ (pos top)) st.args.x (omega arith) st.requires))

pub returns-then-d-x : goal.returns-then-d-x
returns-then-d-x c = range_no (c.args.x +ℤ c.args.d) (sym (below (goal.at.returns-then-d-x c).Start) ∙ c.if-d-x.true)

pub overflow_sub-result : goal.overflow_sub-result
overflow_sub-result c =
    rw (to_z-of_z c.ranges.x) (fits _ (room (pos top) c.args.x (omega arith) c.requires))

pub returns : goal.returns
returns c =
    rw (to_z-of_z c.ranges.d, to_z-of_z c.ranges.x, back (pos top -ℤ c.args.x) (room (pos top) c.args.x (omega arith) c.requires))
    (le-less c.args.x c.args.d (pos top) ∙ range_yes (c.args.x +ℤ c.args.d) (sym (below (goal.at.returns c).Start) ∙ c.if-d-x.false))
