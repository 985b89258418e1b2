-- `matrix_storage::cell_for_row` meets its contract.
use Rattle.std.proofs.Common.{◌≡◌, pos, sym, ◌∙◌, arith, w64, to_z, of_z, to_z-of_z}
use borrow.Author.Rules.{sfits_of}
use borrow.Author.Tests.{eq-eqb, ne_eqb, lt-ltb, le-ltb}
use Rattle.std.proofs.lemmas.Result.{err_from_is_err_and}
use Rattle.refusal.proofs.Numbers.{number-ne0}
use Rattle.matrix_storage.proofs.Cells.{row-bits}
use Rattle.matrix_storage.proofs.Refusals.{shaped_of}
use Rattle.matrix_storage.specs.Bits.{hash_of, signed}
use Rattle.matrix_storage.specs.inner.Shaped.{Shaped}
use Rattle.matrix_storage.specs.Calls.{cell_for}
use Rattle.matrix_storage.proofs.cell_for_row.Goals as goal
use Rattle.matrix_storage.proofs.cell_for_row.Goals.{After-signed_at, In_ok-check_hash_bits}

shaped : (c : In_ok-check_hash_bits) → Shaped c.args.rows c.args.cols
shaped c = shaped_of c.args.rows c.args.cols (sym (c.in_ok-check_hash_bits.ensures))

sign_of : (c : After-signed_at) → let a = c.args in to_z w64 (of_z w64 c.signed_at.result) ≡ signed (hash_of a.high a.low) a.row (pos 1)
sign_of c = to_z-of_z {w = w64} (sfits_of c.signed_at.type_inv) ∙ c.signed_at.ensures

pub returns-in_err-check_hash_bits : goal.returns-in_err-check_hash_bits
unfolding cell_for
returns-in_err-check_hash_bits c =
    let e = c.in_err-check_hash_bits.ensures in
    let p = err_from_is_err_and c.from_residual.result c.from_residual.ensures.1 in
    rw (p.1, p.2, ← e) (simp (ne_eqb _ 0 (number-ne0 c.in_err-check_hash_bits.field-0.0)))

pub returns-then-rows-row : goal.returns-then-rows-row
unfolding cell_for
returns-then-rows-row c = simp (eq-eqb _ 0 (sym (c.in_ok-check_hash_bits.ensures)), le-ltb _ _ c.if-rows-row.true)

pub mask_bits-bits-requires : goal.mask_bits-bits-requires
mask_bits-bits-requires c = (shaped (goal.at.mask_bits-bits-requires c).In_ok-check_hash_bits).some

pub column_at-requires : goal.column_at-requires
column_at-requires c =
    let s = shaped (goal.at.column_at-requires c).In_ok-check_hash_bits in
    record {
      le_cols = (s.some, (omega (arith, s.wide), c.mask_bits-bits.ensures));
      cols_bound = row-bits c.args.rows c.args.cols c.args.row s c.if-rows-row.false;
    }

pub signed_at-requires : goal.signed_at-requires
signed_at-requires c =
    record {
      row_bound = omega (arith, (shaped (goal.at.signed_at-requires c).In_ok-check_hash_bits).few);
      v_bound = omega arith;
    }

pub returns : goal.returns
unfolding cell_for
returns c = simp (eq-eqb _ 0 (sym (c.in_ok-check_hash_bits.ensures)), lt-ltb _ _ c.if-rows-row.false, c.column_at.ensures, sign_of (goal.at.returns c).After-signed_at)
