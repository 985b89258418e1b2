-- `matrix_storage::cols_mask_bits` meets its contract.
use borrow.Author.Tests.{eq-eqb, ne_eqb, lt-ltb, le-ltb}
use Rattle.matrix_storage.specs.Calls.{mask_bits_of}
use Rattle.matrix_storage.proofs.cols_mask_bits.Goals as goal

pub returns-then-cols-eq0 : goal.returns-then-cols-eq0
unfolding mask_bits_of
returns-then-cols-eq0 c = simp (eq-eqb _ 0 c.if-cols-eq0.true)

pub returns-then-cols-gt-MAX_COLS : goal.returns-then-cols-gt-MAX_COLS
unfolding mask_bits_of
returns-then-cols-gt-MAX_COLS c = simp (ne_eqb _ 0 c.if-cols-eq0.false, lt-ltb _ _ c.if-cols-gt-MAX_COLS.true)

pub returns : goal.returns
unfolding mask_bits_of
returns c = simp (ne_eqb _ 0 c.if-cols-eq0.false, le-ltb _ _ c.if-cols-gt-MAX_COLS.false, c.mask_bits.ensures)
