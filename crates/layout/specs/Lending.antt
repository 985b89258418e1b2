-- A lent state, as a contract names it: a header, and the slices that a function is lent.
use Rattle.std.specs.Prelude.{ℕ, ℤ}
use Rattle.words.specs.Lending.{SliceNow, SliceBoth}
use Rattle.header.specs.declared.Header.{Header}
use Rattle.layout.specs.declared.lending.LentState.{LentState}
use Rattle.layout.specs.Slices.{Lent, lent}

abbrev pub lent_now : Header → SliceNow ℤ → SliceNow ℕ → SliceNow ℕ → SliceNow ℤ → Lent
lent_now h xs ws es ns = lent h xs.now ws.now es.now ns.now

-- of slices that are lent to be changed: at entry, and at exit
abbrev pub lent_in : Header → SliceBoth ℤ → SliceBoth ℕ → SliceBoth ℕ → SliceBoth ℤ → Lent
lent_in h xs ws es ns = lent h xs.entry.now ws.entry.now es.entry.now ns.entry.now

abbrev pub lent_out : Header → SliceBoth ℤ → SliceBoth ℕ → SliceBoth ℕ → SliceBoth ℤ → Lent
lent_out h xs ws es ns = lent h xs.exit.now ws.exit.now es.exit.now ns.exit.now

-- of one struct
abbrev pub lent_read : LentState → Lent
lent_read s = lent s.header.now s.counters.now s.norms.now s.entries.now s.counts.now
