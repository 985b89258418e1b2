-- Candidates in the three arrays that hold them.
use Rattle.std.specs.Prelude.{suc, zero, ℕ, List, [], ◌∷◌, pos, ℤ, get_or}
use Rattle.words.specs.Lending.{SliceNow, SliceBoth}
use Rattle.sums.specs.Entries.{Entry}

abbrev pub entry : ℕ → ℕ → ℤ → Entry
entry k b c = record { key = k; bottom = b; count = c }

-- three arrays, with a place in each for a candidate
pub record Space : Type 0 where
  pub keys : List ℕ
  pub bottoms : List ℕ
  pub counts : List ℤ

abbrev pub space : List ℕ → List ℕ → List ℤ → Space
space ks bs cs = record { keys = ks; bottoms = bs; counts = cs }

-- in a contract: of the slices that a function is lent, then at its entry and at its exit
abbrev pub space_now : SliceNow ℕ → SliceNow ℕ → SliceNow ℤ → Space
space_now ks bs cs = space ks.now bs.now cs.now

abbrev pub space_in : SliceBoth ℕ → SliceBoth ℕ → SliceBoth ℤ → Space
space_in ks bs cs = space ks.entry.now bs.entry.now cs.entry.now

abbrev pub space_out : SliceBoth ℕ → SliceBoth ℕ → SliceBoth ℤ → Space
space_out ks bs cs = space ks.exit.now bs.exit.now cs.exit.now

abbrev pub at : Space → ℕ → Entry
at s i = record { key = get_or s.keys i 0; bottom = get_or s.bottoms i 0; count = get_or s.counts i (pos 0) }

-- n candidates from place i on
unfoldable pub entries_in : Space → ℕ → ℕ → List Entry
entries_in s i zero = []
entries_in s i (suc n) = at s i ∷ entries_in s (suc i) n

-- n candidates from place i on, by what stands at each place
unfoldable pub listed : (ℕ → Entry) → ℕ → ℕ → List Entry
listed f i zero = []
listed f i (suc n) = f i ∷ listed f (suc i) n
