-- A table as the state check wants it.
use Rattle.std.specs.Prelude.{◌≡◌, ℕ, ◌≤◌, length}
use Rattle.heap_moves.specs.inner.Order.{Ordered, Rest}
use Rattle.heap.specs.Offer.{Table}

-- "no count in a layer is below its heap parent's, and unused entries are zero"
pub record Sound (size : ℕ) (t : Table) : Type 0 where
  pub long : length t.cands ≡ size
  pub used : t.len ≤ size
  pub ordered : Ordered t.len t.cands
  pub rest : Rest t.len t.cands
