-- What the functions that build an index need, by name.
use Rattle.std.specs.Prelude.{ℕ, ◌*◌, ◌≤◌, ◌<◌, ◌≡◌, get_or}
use Rattle.header.specs.declared.Header.{Header}
use Rattle.header.specs.inner.Accepted.{Accepted}
use Rattle.layout.specs.Slices.{cands_in}
use Rattle.layout_index.specs.Tables.{tables_in}

-- a header, entries and an index that fit together
pub record Buildable (h : Header) (ne nx : ℕ) : Type 0 where
  pub accepted : Accepted h.shape
  pub entries : ne ≡ 4 * cands_in h.shape
  pub tables : nx ≡ tables_in h.shape
  pub lens : (m : ℕ) → m < h.shape.layers → get_or h.lens m 0 ≤ h.shape.heap_size
