-- Between C's headers of two tiers and the library's, which have the same seven dimensions.
use Rattle.std.specs.Prelude.{ℕ, Bool, List}
use Rattle.header.specs.declared.Shape.{Shape}
use Rattle.header.specs.declared.Header.{Header}
use Rattle.header.specs.Shape.{two_tier}
use Rattle.header.specs.Answers.{Answered}
use Rattle.header.specs.declared.Scalars.{Scalars}
use Rattle.header.specs.Header.{mode_number, mode_by}
use Rattle.univmon_c.specs.Calls.{Face}
use Rattle.univmon_two_tier.specs.declared.CTwoTier.{CTwoTier}
use Rattle.univmon_two_tier.specs.declared.CTwoTierAnswered.{CTwoTierAnswered}
use Rattle.univmon_two_tier.specs.declared.CTwoTierShape.{CTwoTierShape}

abbrev pub dimensions_of : CTwoTierShape → Shape
dimensions_of s = two_tier s.heap_size s.elephant_layers s.elephant_rows s.elephant_cols s.mouse_rows s.mouse_cols s.layers

abbrev pub header_of : CTwoTier → Header
header_of h =
    record {
      shape = two_tier h.heap_size h.elephant_layers h.elephant_rows h.elephant_cols h.mouse_rows h.mouse_cols h.layers;
      totals = record { weight = h.weight; updates = h.updates };
      mode = mode_by h.mode;
      flags = h.flags;
      lens = h.lens;
    }

-- C's header from shape, weight, updates, mode, and the lengths and flags that are lent
abbrev pub c_head : CTwoTierShape → ℕ → ℕ → ℕ → List ℕ → List Bool → CTwoTier
c_head s w u m ns fs =
    record {
      heap_size = s.heap_size;
      layers = s.layers;
      elephant_layers = s.elephant_layers;
      elephant_rows = s.elephant_rows;
      elephant_cols = s.elephant_cols;
      mouse_rows = s.mouse_rows;
      mouse_cols = s.mouse_cols;
      weight = w;
      updates = u;
      mode = m;
      lens = ns;
      flags = fs;
    }

-- the dimensions of a shape, as C has them
abbrev pub c_shape : Shape → CTwoTierShape
c_shape s =
    record {
      heap_size = s.heap_size;
      layers = s.layers;
      elephant_layers = s.elephant_layers;
      elephant_rows = s.elephant_rows;
      elephant_cols = s.elephant_cols;
      mouse_rows = s.mouse_rows;
      mouse_cols = s.mouse_cols;
    }

abbrev pub c_two_tier : Header → CTwoTier
c_two_tier h = c_head (c_shape h.shape) h.totals.weight h.totals.updates (mode_number h.mode) h.lens h.flags

abbrev pub c_answered : Answered → CTwoTierAnswered
c_answered a = record { refusal = a.refusal; header = c_two_tier a.header }

-- what the library takes by value where lengths and flags are lent
abbrev pub c_scalars : CTwoTierShape → ℕ → ℕ → ℕ → Scalars
c_scalars s w u m = record { shape = dimensions_of s; totals = record { weight = w; updates = u }; mode = mode_by m }

-- so the calls of two tiers are said as those of one
abbrev pub two_tier_face : Face CTwoTier
two_tier_face = record { mode = λ h. h.mode; stands = header_of; back = c_two_tier }
