-- `matrix_storage::shifted` meets its contract.
use native.Mathlib.Omega.{arith}
use borrow.Author.Rules.{rules}
use Rattle.matrix_storage.proofs.Shifts.{hash_high, hash_zero, hash_mid}
use Rattle.matrix_storage.proofs.shifted.Goals as goal

pub returns-then-s-ge64 : goal.returns-then-s-ge64
returns-then-s-ge64 c = let a = c.args in hash_high a.s a.high a.low c.if-s-ge64.true (search rules) (search rules)

pub returns-then-s-eq0 : goal.returns-then-s-eq0
returns-then-s-eq0 c = let a = c.args in hash_zero a.s a.high a.low c.if-s-eq0.true (search rules)

pub overflow_add-result : goal.overflow_add-result
overflow_add-result c = let a = c.args in rw (hash_mid a.s a.high a.low (omega arith) (search rules)) (omega arith)

pub returns : goal.returns
returns c = let a = c.args in hash_mid a.s a.high a.low (omega arith) (search rules)
