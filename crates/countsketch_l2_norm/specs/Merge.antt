-- Two layers' counters added, and norms worked out anew: "A norm is its row's sum of capped squares."
use Rattle.std.specs.Prelude.{ℕ, zero, suc, ◌+◌, ◌*◌, List, [], ◌∷◌, ℤ, ◌+ℤ◌}
use Rattle.words.specs.Num.{capped}
use Rattle.countsketch_l2_norm.specs.Sketch.{Sketch, cell_at}

unfoldable pub sums : List ℤ → List ℤ → List ℤ
sums [] ys = []
sums (x ∷ xs) [] = []
sums (x ∷ xs) (y ∷ ys) = (x +ℤ y) ∷ sums xs ys

-- the sum of f over the numbers below n
unfoldable pub sum_below : ℕ → (ℕ → ℕ) → ℕ
sum_below zero f = 0
sum_below (suc n) f = sum_below n f + f n

-- the sum of the capped squares of n counters from a on
unfoldable pub squares_from : ℕ → ℕ → List ℤ → ℕ
squares_from a n cells = sum_below n (λ c. capped (cell_at cells (a + c)))

-- of row r
abbrev pub row_norm : ℕ → List ℤ → ℕ → ℕ
row_norm cols cells r = squares_from (r * cols) cols cells

-- the norms of k rows from row r on
unfoldable pub row_norms : ℕ → List ℤ → ℕ → ℕ → List ℕ
row_norms cols cells zero r = []
row_norms cols cells (suc k) r = row_norm cols cells r ∷ row_norms cols cells k (suc r)

abbrev pub merge_sketch : ℕ → ℕ → Sketch → Sketch → Sketch
merge_sketch rows cols s t = record { cells = sums s.cells t.cells; norms = row_norms cols (sums s.cells t.cells) rows 0 }
