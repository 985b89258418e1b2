-- `matrix_storage::sign_bit` meets its contract.
use native.Mathlib.Omega.{arith}
use borrow.Author.Rules.{rules}
use Rattle.matrix_storage.proofs.Shifts.{sign_place}
use Rattle.matrix_storage.proofs.sign_bit.Goals as goal

pub returns : goal.returns
returns c = let a = c.args in sign_place a.row a.high a.low (omega arith) (search rules)
