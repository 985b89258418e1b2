-- `matrix_storage::check_hash_bits` meets its contract.
use Prim.Native.Nat.{◌+◌, ◌*◌}
use mathlib.Core.Path.{◌≡◌, sym, ◌∙◌}
use mathlib.Core.Bool.{false}
use lib.Dec.{ltb}
use native.Mathlib.Omega.{arith}
use borrow.Author.Tests.{eq-eqb, ne_eqb, lt-ltb, le-ltb}
use Rattle.matrix_storage.specs.Bits.{mask_bits, hash_bits}
use Rattle.matrix_storage.specs.Calls.{bits_refusal}
use Rattle.matrix_storage.proofs.check_hash_bits.Goals as goal
use Rattle.matrix_storage.proofs.check_hash_bits.Goals.{Else-bits_above, then-rows-eq0-via-then-rows-eq0, then-rows-eq0-via-else-rows-eq0+then-cols-eq0, then-rows-gt-MAX_ROWS-via-then-rows-gt-MAX_ROWS, then-rows-gt-MAX_ROWS-via-else-rows-gt-MAX_ROWS+then-cols-gt-MAX_COLS}

within : (c : Else-bits_above) → ltb hash_bits ((mask_bits c.args.cols + 1) * c.args.rows) ≡ false
within c = sym c.bits_above.ensures ∙ c.if-bits_above.false

pub returns-then-rows-eq0 : goal.returns-then-rows-eq0
unfolding bits_refusal
returns-then-rows-eq0 c =
    elim c.then-rows-eq0.branch [
      | then-rows-eq0-via-then-rows-eq0 w ↦ simp (eq-eqb _ 0 w.if-rows-eq0.true)
      | then-rows-eq0-via-else-rows-eq0+then-cols-eq0 w ↦ simp (ne_eqb _ 0 w.if-rows-eq0.false, eq-eqb _ 0 w.if-cols-eq0.true)
    ]

pub bits_above-requires : goal.bits_above-requires
bits_above-requires c = omega (arith, c.if-cols-eq0.false)

pub returns-then-bits_above : goal.returns-then-bits_above
unfolding bits_refusal
returns-then-bits_above c = simp (ne_eqb _ 0 c.if-rows-eq0.false, ne_eqb _ 0 c.if-cols-eq0.false, sym c.bits_above.ensures ∙ c.if-bits_above.true)

pub returns-then-rows-gt-MAX_ROWS : goal.returns-then-rows-gt-MAX_ROWS
unfolding bits_refusal
returns-then-rows-gt-MAX_ROWS c =
    let fits = within (goal.at.returns-then-rows-gt-MAX_ROWS c).Else-bits_above in
    elim c.then-rows-gt-MAX_ROWS.branch [
      | then-rows-gt-MAX_ROWS-via-then-rows-gt-MAX_ROWS w ↦ simp (ne_eqb _ 0 c.if-rows-eq0.false, ne_eqb _ 0 c.if-cols-eq0.false, fits, lt-ltb _ _ w.if-rows-gt-MAX_ROWS.true)
      | then-rows-gt-MAX_ROWS-via-else-rows-gt-MAX_ROWS+then-cols-gt-MAX_COLS w ↦
          simp (ne_eqb _ 0 c.if-rows-eq0.false, ne_eqb _ 0 c.if-cols-eq0.false, fits, le-ltb _ _ w.if-rows-gt-MAX_ROWS.false, lt-ltb _ _ w.if-cols-gt-MAX_COLS.true)
    ]

pub returns : goal.returns
unfolding bits_refusal
returns c = simp (ne_eqb _ 0 c.if-rows-eq0.false, ne_eqb _ 0 c.if-cols-eq0.false, within (goal.at.returns c).Else-bits_above, le-ltb _ _ c.if-rows-gt-MAX_ROWS.false, le-ltb _ _ c.if-cols-gt-MAX_COLS.false)
