-- `heap_index::after` meets its contract.
use native.Mathlib.Omega.{arith}
use Rattle.heap_index.proofs.Walks.{next_wraps, next_on}
use Rattle.heap_index.proofs.after.Goals as goal

pub returns-then-q-m : goal.returns-then-q-m
returns-then-q-m c = (next_wraps c.args.m c.args.p c.if-q-m.true, omega arith)

pub returns : goal.returns
returns c = (next_on c.args.m c.args.p c.if-q-m.false, omega arith)
