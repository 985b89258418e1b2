-- What it means that an index holds a layer's candidates.
use Rattle.std.specs.Prelude.{◌≡◌, ◌≢◌, true, List, ℕ, suc, ◌<◌, ◌≤◌, length}
use Rattle.words.specs.Num.{in_range}
use Rattle.heap_moves.specs.Cands.{Cand, count_at}
use Rattle.heap_index.specs.Index.{home, dist, word, key_at, key_on}

-- the home of the key that a place names, in a table of m places
abbrev pub home_on : ℕ → List ℕ → List Cand → ℕ → ℕ
home_on m xs cs p = home m (key_on xs cs p)

-- The m places of xs hold the first n candidates, each once and where its key's lookup ends, but for the entry o: at o ≡ n they hold them all.
pub record IndexesIn (m : ℕ) (xs : List ℕ) (n : ℕ) (cs : List Cand) (o : ℕ) : Type 0 where
  pub named : (p : ℕ) → p < m → word xs p ≤ n
  pub out : (p : ℕ) → p < m → word xs p ≢ suc o
  pub once : (p q : ℕ) → p < m → q < m → word xs p ≡ word xs q → word xs p ≢ 0 → p ≡ q
  pub at : (j : ℕ) → j < n → j ≢ o → (p : ℕ) × (p < m) × (word xs p ≡ suc j)
  -- no place is empty from a key's home to its place
  pub reach : (p q : ℕ) → p < m → q < m → word xs p ≢ 0 → dist m (home_on m xs cs p) q < dist m (home_on m xs cs p) p → word xs q ≢ 0
  pub keys : (i j : ℕ) → i < n → j < n → i ≢ o → j ≢ o → key_at cs i ≡ key_at cs j → i ≡ j

abbrev pub Indexes : List ℕ → ℕ → List Cand → ℕ → Type 0
Indexes xs n cs o = IndexesIn (length xs) xs n cs o

-- every candidate is in range
abbrev pub Ranged : ℕ → List Cand → Type 0
Ranged n cs = (j : ℕ) → j < n → in_range (count_at cs j) ≡ true
