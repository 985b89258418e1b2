-- `layout::extent_of` meets its contract.
use Prim.Native.Nat.{◌*◌, ◌≤◌}
use native.Mathlib.Omega.{arith}
use Rattle.header.specs.Shape.{max_layers, max_heap}
use Rattle.matrix_storage.specs.Bits.{max_rows}
use Rattle.layout.proofs.Offsets.{norms_bound, seats_bound, cand-off}
use native.Mathlib.Nat.{le_refl}
use Rattle.layout.proofs.extent_of.Goals as goal
use Rattle.layout.proofs.extent_of.Goals.{After-start_of-end, Start}

seats-here : (c : Start) → c.args.shape.layers * c.args.shape.heap_size ≤ max_layers * max_heap
seats-here c = let s = c.args.shape in omega (arith, cand-off s s.layers, seats_bound s c.requires s.layers (le_refl _))

rows-here : (c : After-start_of-end) → c.start_of-end.result.rows ≤ max_layers * max_rows
rows-here c = let s = c.args.shape in omega (arith, c.start_of-end.ensures.1, norms_bound s c.requires s.layers (le_refl _))

pub start_of-end-requires : goal.start_of-end-requires
start_of-end-requires c = record {
  accepted = c.requires;
  l_le_layers = le_refl _;
}

pub overflow_mul-seats : goal.overflow_mul-seats
overflow_mul-seats c = record { fits = omega (arith, seats-here (goal.at.overflow_mul-seats c).Start) }

pub overflow_mul-result : goal.overflow_mul-result
overflow_mul-result c = record { fits = omega (arith, rows-here (goal.at.overflow_mul-result c).After-start_of-end) }

pub overflow_mul-result-2 : goal.overflow_mul-result-2
overflow_mul-result-2 c = record { fits = omega (arith, seats-here (goal.at.overflow_mul-result-2 c).Start) }

pub returns : goal.returns
returns c = let s = c.args.shape in let e = c.start_of-end.ensures in rw (cand-off s s.layers, e.0, e.1)
