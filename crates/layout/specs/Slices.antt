-- A state as it is lent: the header and four slices.
use Rattle.std.specs.Prelude.{ℕ, ◌*◌, Bool, ◌&&◌, List, length, replicate, ℤ, pos, eqb}
use Rattle.countsketch_l2_norm.specs.Norms.{norms_of, words_of}
use Rattle.heap_moves.specs.Flat.{cands_of, entries_of, counts_of}
use Rattle.header.specs.declared.Shape.{Shape}
use Rattle.header.specs.declared.Header.{Header}
use Rattle.header.specs.Header.{fresh_header}
use Rattle.layout.specs.State.{State, cell_off, norm_off, cand_off}
use Rattle.layout.specs.declared.Extent.{Extent}

-- "one signed word per counter, two words for each row norm (low, then high) .. four words each .. and a signed count in a second slice"
pub record Lent : Type 0 where
  pub head : Header
  pub counters : List ℤ
  pub norms : List ℕ
  pub entries : List ℕ
  pub counts : List ℤ

abbrev pub lent : Header → List ℤ → List ℕ → List ℕ → List ℤ → Lent
lent h xs ws es ns = record { head = h; counters = xs; norms = ws; entries = es; counts = ns }

abbrev pub cells_in : Shape → ℕ
cells_in sh = cell_off sh sh.layers

abbrev pub norms_in : Shape → ℕ
norms_in sh = norm_off sh sh.layers

abbrev pub cands_in : Shape → ℕ
cands_in sh = cand_off sh sh.layers

-- "Their lengths are exactly layers × rows × cols counters, 2 × layers × rows norm words, 4 × layers × heap size entry words and layers × heap size counts.",
-- layer by layer with that layer's rows and columns
unfoldable pub lengths_ok : Shape → ℕ → ℕ → ℕ → ℕ → Bool
lengths_ok sh xs ws es ns = eqb xs (cells_in sh) && eqb ws (2 * norms_in sh) && eqb es (4 * cands_in sh) && eqb ns (cands_in sh)

abbrev pub lent_ok : Lent → Bool
lent_ok r = lengths_ok r.head.shape (length r.counters) (length r.norms) (length r.entries) (length r.counts)

-- the state that is lent, and a state as it stands in slices
unfoldable pub view : Lent → State
view r = record { head = r.head; counters = r.counters; norms = norms_of r.norms (norms_in r.head.shape); cands = cands_of r.entries r.counts }

unfoldable pub flat : State → Lent
flat s = record { head = s.head; counters = s.counters; norms = words_of s.norms; entries = entries_of s.cands; counts = counts_of s.cands }

-- the slices of a fresh state: zeros
unfoldable pub fresh_lent : Shape → Lent
fresh_lent sh =
    record {
      head = fresh_header sh;
      counters = replicate (cells_in sh) (pos 0);
      norms = replicate (2 * norms_in sh) 0;
      entries = replicate (4 * cands_in sh) 0;
      counts = replicate (cands_in sh) (pos 0);
    }

-- how much of each slice a shape uses
abbrev pub extent_of : Shape → Extent
extent_of sh = record { cells = cells_in sh; norms = 2 * norms_in sh; words = 4 * cands_in sh; seats = cands_in sh }
