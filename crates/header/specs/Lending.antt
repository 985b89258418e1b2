-- A header whose lengths and flags are lent, as a contract names it.
use Rattle.std.specs.Prelude.{ℕ, Bool}
use Rattle.words.specs.Lending.{SliceNow, SliceBoth}
use Rattle.header.specs.declared.Scalars.{Scalars}
use Rattle.header.specs.declared.Header.{Header}
use Rattle.header.specs.Header.{head_of}

abbrev pub head_now : Scalars → SliceNow ℕ → SliceNow Bool → Header
head_now s lens flags = head_of s lens.now flags.now

-- of slices that are lent to be changed: at entry, and at exit
abbrev pub head_in : Scalars → SliceBoth ℕ → SliceBoth Bool → Header
head_in s lens flags = head_of s lens.entry.now flags.entry.now

abbrev pub head_out : Scalars → SliceBoth ℕ → SliceBoth Bool → Header
head_out s lens flags = head_of s lens.exit.now flags.exit.now
