-- A layer read at a place.
use Rattle.std.specs.Prelude.{◌≡◌, Bool, List, ℕ, ◌*◌, ◌≤◌, length}
use Rattle.heap_moves.specs.Cands.{most_cands}
use Rattle.layer.specs.declared.Dims.{Dims}
use Rattle.state_forms.specs.Formats.{Got, got, bad}
use Rattle.state_forms.specs.Grammar.{Page}
use Rattle.state_lines.specs.inner.Places.{most_side}

-- no number of a layer's shape is so large that a place leaves the numbers
pub record Small (d : Dims) : Type 0 where
  pub rows : d.rows ≤ most_side
  pub cols : d.cols ≤ most_side
  pub size : d.size ≤ most_cands

-- nw entry words and nc counts are a layer's
pub record PageRoom (d : Dims) (nw nc : ℕ) : Type 0 where
  pub small : Small d
  pub words : nw ≡ 4 * d.size
  pub counts : nc ≡ d.size

-- what of a layer is answered: its flag and the number of its candidates
unfoldable pub paged : Got Page → Got (Bool × ℕ)
paged (got p t) = got (p.flag, length p.keys) t
paged bad = bad

-- a text that was read
pub record Legible {A : Type 0} (g : Got A) : Type 0 where
  pub value : A
  pub left : List ℕ
  pub reads : g ≡ got value left
