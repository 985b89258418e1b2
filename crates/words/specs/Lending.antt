-- Slices as a contract names them.
use Rattle.std.specs.Prelude.{List}
use Rattle.std.specs.Borrow.{Bor, MutBor}
use denote.Triple.Both.{Both}

-- one that is lent to be read
abbrev pub SliceNow : Type 0 → Type 0
SliceNow A = Bor (List A)

-- in an `ensures`, one that is lent to be changed, whose name is a pair: the slice as it was lent, and as it is left
abbrev pub SliceBoth : Type 0 → Type 0
SliceBoth A = Both (MutBor (List A)) (MutBor (List A))
