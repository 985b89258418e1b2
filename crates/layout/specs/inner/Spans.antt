-- Where a layer stands in the four slices.
use Rattle.std.specs.Prelude.{ℕ, ◌+◌, ◌*◌, min}
use Rattle.header.specs.declared.Shape.{Shape}
use Rattle.layout.specs.declared.Span.{Span}
use Rattle.layout.specs.State.{dims_at, cell_off, norm_off, cand_off}

-- how many of the layers before l are of the first tier
abbrev pub elephants_before : Shape → ℕ → ℕ
elephants_before sh l = min l sh.elephant_layers

unfoldable pub span_of : Shape → ℕ → Span
span_of sh l =
    record {
      cells = record { start = cell_off sh l; end = cell_off sh l + (dims_at sh l).rows * (dims_at sh l).cols };
      norms = record { start = 2 * norm_off sh l; end = 2 * norm_off sh l + 2 * (dims_at sh l).rows };
      words = record { start = 4 * cand_off sh l; end = 4 * cand_off sh l + 4 * (dims_at sh l).size };
      seats = record { start = cand_off sh l; end = cand_off sh l + (dims_at sh l).size };
    }
