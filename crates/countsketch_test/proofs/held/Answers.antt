-- `countsketch_test::held` meets its contract.
use Prim.Native.Nat.{◌*◌, ◌≤◌}
use mathlib.Core.Path.{sym, ◌∙◌}
use native.Mathlib.Omega.{arith}
use native.Mathlib.Nat.{mul-le-mul}
use borrow.Author.Tests.{leb-true}
use Rattle.words.proofs.Bools.{never}
use Rattle.matrix_storage.specs.inner.Shaped.{Shaped}
use Rattle.matrix_storage.proofs.Refusals.{shaped_of}
use Rattle.refusal.proofs.Numbers.{ok_refused}
use Rattle.countsketch_test.proofs.held.Goals as goal
use Rattle.countsketch_test.proofs.held.Goals.{Then-is_ok, Then-rows-cols, then-is_ok, else-is_ok}

shaped : (c : Then-is_ok) → Shaped c.args.rows c.args.cols
shaped c = shaped_of c.args.rows c.args.cols (sym c.check_hash_bits.ensures ∙ ok_refused c.check_hash_bits.result (sym c.is_ok.ensures.value ∙ c.if-is_ok.true))

-- rows and columns are accepted, and the cells hold them
room : (c : Then-rows-cols) → Shaped c.args.rows c.args.cols × (c.args.rows * c.args.cols ≤ c.args.cells)
room c =
    elim c.if-is_ok.branch [
      | then-is_ok w ↦
          (shaped_of c.args.rows c.args.cols (sym c.check_hash_bits.ensures ∙ ok_refused c.check_hash_bits.result (sym c.is_ok.ensures.value ∙ w.if-is_ok.true)), leb-true _ _ (sym w.value-is ∙ c.if-rows-cols.true))
      | else-is_ok w ↦ absurd (never (sym (w.value-is ∙ w.if-is_ok.false) ∙ c.if-rows-cols.true))
    ]

pub overflow_mul-rows : goal.overflow_mul-rows
overflow_mul-rows c =
    let s = shaped (goal.at.overflow_mul-rows c).Then-is_ok in
    record { fits = omega (arith, mul-le-mul s.few s.wide) }

pub overflow_mul-result : goal.overflow_mul-result
overflow_mul-result c =
    let s = (room (goal.at.overflow_mul-result c).Then-rows-cols).0 in
    record { fits = omega (arith, s.few) }

pub returns-then-rows-cols : goal.returns-then-rows-cols
returns-then-rows-cols c = λ e. let r = room (goal.at.returns-then-rows-cols c).Then-rows-cols in (r.0, (r.1, leb-true _ _ e))
