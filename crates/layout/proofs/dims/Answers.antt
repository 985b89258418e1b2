-- `layout::dims` meets its contract.
use borrow.Author.Tests.{lt-ltb, le-ltb}
use Rattle.layout.specs.State.{rows_at, cols_at}
use Rattle.layout.proofs.dims.Goals as goal

pub returns-then-l-shape : goal.returns-then-l-shape
unfolding rows_at cols_at
returns-then-l-shape c = simp (lt-ltb _ _ c.if-l-shape.true)

pub returns-else-l-shape : goal.returns-else-l-shape
unfolding rows_at cols_at
returns-else-l-shape c = simp (le-ltb _ _ c.if-l-shape.false)
