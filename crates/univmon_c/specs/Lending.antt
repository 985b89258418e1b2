-- A state as C lends it, as a contract names it.
use Rattle.std.specs.Prelude.{ℕ, Bool, ℤ}
use Rattle.words.specs.Lending.{SliceBoth}
use Rattle.univmon_c.specs.declared.CShape.{CShape}
use Rattle.univmon_c.specs.declared.CHeader.{CHeader}
use Rattle.univmon_c.specs.Crossing.{c_head}
use Rattle.univmon_c.specs.Calls.{CLent, c_lent}

-- of slices that are lent to be changed: at entry, and at exit
abbrev pub c_lent_in : {H : Type 0} → H → SliceBoth ℤ → SliceBoth ℕ → SliceBoth ℕ → SliceBoth ℤ → CLent H
c_lent_in h xs ws es ns = c_lent h xs.entry.now ws.entry.now es.entry.now ns.entry.now

abbrev pub c_lent_out : {H : Type 0} → H → SliceBoth ℤ → SliceBoth ℕ → SliceBoth ℕ → SliceBoth ℤ → CLent H
c_lent_out h xs ws es ns = c_lent h xs.exit.now ws.exit.now es.exit.now ns.exit.now

-- a header whose lengths and flags are lent
abbrev pub c_head_in : CShape → ℕ → ℕ → ℕ → SliceBoth ℕ → SliceBoth Bool → CHeader
c_head_in s w u m lens flags = c_head s w u m lens.entry.now flags.entry.now

abbrev pub c_head_out : CShape → ℕ → ℕ → ℕ → SliceBoth ℕ → SliceBoth Bool → CHeader
c_head_out s w u m lens flags = c_head s w u m lens.exit.now flags.exit.now
