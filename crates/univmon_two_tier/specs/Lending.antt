-- A header of two tiers whose lengths and flags C lends, as a contract names it.
use Rattle.std.specs.Prelude.{ℕ, Bool}
use Rattle.words.specs.Lending.{SliceBoth}
use Rattle.univmon_two_tier.specs.declared.CTwoTier.{CTwoTier}
use Rattle.univmon_two_tier.specs.declared.CTwoTierShape.{CTwoTierShape}
use Rattle.univmon_two_tier.specs.Crossing.{c_head}

-- at entry, and at exit
abbrev pub c_head_in : CTwoTierShape → ℕ → ℕ → ℕ → SliceBoth ℕ → SliceBoth Bool → CTwoTier
c_head_in s w u m lens flags = c_head s w u m lens.entry.now flags.entry.now

abbrev pub c_head_out : CTwoTierShape → ℕ → ℕ → ℕ → SliceBoth ℕ → SliceBoth Bool → CTwoTier
c_head_out s w u m lens flags = c_head s w u m lens.exit.now flags.exit.now
