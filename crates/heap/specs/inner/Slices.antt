-- A table in two slices, and an offer to it.
use Rattle.std.specs.Prelude.{◌≡◌, ℕ, ◌*◌, ◌≤◌, ◌<◌, List, ℤ}
use Rattle.heap_moves.specs.declared.Item.{Item}
use Rattle.heap_moves.specs.Flat.{cands_of, cand_of}
use Rattle.heap.specs.declared.Answer.{Answer}
use Rattle.heap.specs.Offer.{Table, Offered, offer, len_by}

-- nw words and nc counts for a table of `size` places, `len` of them in use
pub record Room (nw nc size len : ℕ) : Type 0 where
  pub words : nw ≡ 4 * size
  pub counts : nc ≡ size
  pub some : 0 < size
  pub used : len ≤ size

-- the table that stands in the words and counts
abbrev pub table_of : List ℕ → List ℤ → ℕ → Table
table_of es ns len = record { cands = cands_of es ns; len = len }

-- what an offer of the key, its hashes and its count makes of it
abbrev pub offered : List ℕ → List ℤ → ℕ → ℕ → Item → ℤ → Offered
offered es ns size len w v = offer size (table_of es ns len) (cand_of w v)

-- the words and counts after an offer with this answer
abbrev pub offered_of : List ℕ → List ℤ → ℕ → Answer → Offered
offered_of es ns len a = record { table = table_of es ns (len_by a len); answer = a }
