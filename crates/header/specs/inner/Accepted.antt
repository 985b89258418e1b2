-- What an accepted shape holds, by name.
use Rattle.std.specs.Prelude.{◌≤◌}
use Rattle.matrix_storage.specs.inner.Shaped.{Shaped}
use Rattle.header.specs.Shape.{max_layers, max_heap}
use Rattle.header.specs.declared.Shape.{Shape}

-- a shape that is not refused
pub record Accepted (sh : Shape) : Type 0 where
  pub elephant : Shaped sh.elephant_rows sh.elephant_cols
  pub mouse : Shaped sh.mouse_rows sh.mouse_cols
  pub some : 1 ≤ sh.layers
  pub few : sh.layers ≤ max_layers
  pub seats : 1 ≤ sh.heap_size
  pub small : sh.heap_size ≤ max_heap
