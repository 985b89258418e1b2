-- The layers of a shape of one tier are alike: each has the shape's rows and columns. Assumes nothing.
use mathlib.Core.Path.{◌≡◌, refl, sym, ap}
use mathlib.Core.Bool.{Bool, true, false, cond}
use Prim.Native.Nat.{ℕ}
use lib.Dec.{ltb}
use Rattle.header.specs.declared.Shape.{Shape}
use Rattle.header.specs.OneTier.{OneTiered}
use Rattle.layer.specs.declared.Dims.{Dims}
use Rattle.layout.specs.State.{rows_at, cols_at, dims_at}

either : (b : Bool) (m n : ℕ) → n ≡ m → cond b m n ≡ n
either true m n e = sym e
either false m n e = refl

module _ (sh : Shape) (o : OneTiered sh) (l : ℕ) where
  pub rows_alike : rows_at sh l ≡ sh.mouse_rows
  unfolding rows_at
  rows_alike = either (ltb l sh.elephant_layers) sh.elephant_rows sh.mouse_rows (ap (λ (s : Shape). s.elephant_rows) o)

  pub cols-alike : cols_at sh l ≡ sh.mouse_cols
  unfolding cols_at
  cols-alike = either (ltb l sh.elephant_layers) sh.elephant_cols sh.mouse_cols (ap (λ (s : Shape). s.elephant_cols) o)

  pub dims-alike : ◌≡◌ {A = Dims} (dims_at sh l) (record { rows = sh.mouse_rows; cols = sh.mouse_cols; size = sh.heap_size })
  dims-alike = λ i. record { rows = rows_alike i; cols = cols-alike i; size = sh.heap_size }
