-- What functions on a lent state need, by name.
use Rattle.std.specs.Prelude.{ℕ, ◌*◌, ◌≤◌, ◌<◌, ◌≡◌, length, get_or}
use Rattle.header.specs.declared.Shape.{Shape}
use Rattle.header.specs.inner.Accepted.{Accepted}
use Rattle.layout.specs.Slices.{Lent, cells_in, norms_in, cands_in}

-- slices of these lengths are a shape's
pub record Sizes (sh : Shape) (a b c d : ℕ) : Type 0 where
  pub cells : a ≡ cells_in sh
  pub norms : b ≡ 2 * norms_in sh
  pub entries : c ≡ 4 * cands_in sh
  pub counts : d ≡ cands_in sh

-- a header and slices that fit together: an accepted shape, its lengths, and no layer with more candidates than seats
pub record Standing (r : Lent) : Type 0 where
  pub accepted : Accepted r.head.shape
  pub sizes : Sizes r.head.shape (length r.counters) (length r.norms) (length r.entries) (length r.counts)
  pub lens : (m : ℕ) → m < r.head.shape.layers → get_or r.head.lens m 0 ≤ r.head.shape.heap_size
