-- A layer with its index in three slices.
use Rattle.std.specs.Prelude.{Bool, List, ℕ, ℤ}
use Rattle.heap_moves.specs.Flat.{cands_of}
use Rattle.heap_indexed.specs.declared.TriedOffer.{TriedOffer}
use Rattle.heap_indexed.specs.Moves.{IndexedCands}
use Rattle.heap_indexed.specs.Offers.{IndexedOffer}

-- what stands in the slices, and whether nothing was refused
abbrev pub cands_with : List ℕ → List ℕ → List ℤ → Bool → IndexedCands
cands_with xs es ns b = record { fine = b; cands = cands_of es ns; index = xs }

-- and what an offer did
abbrev pub offered_with : List ℕ → List ℕ → List ℤ → TriedOffer → IndexedOffer
offered_with xs es ns r = record { after = cands_with xs es ns r.made; answer = r.answer }
