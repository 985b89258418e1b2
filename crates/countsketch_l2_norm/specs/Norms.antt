-- Norms as pairs of words: "two words for each row norm (low, then high)".
use Rattle.std.specs.Prelude.{ℕ, zero, suc, ◌+◌, ◌*◌, ◌/◌, ◌%◌, List, [], ◌∷◌, get_or, drop}
use Rattle.words.specs.Num.{word_size}
use Rattle.words.specs.Wide.{two_words}

-- the norms of a slice of words, and the words of norms
unfoldable pub norms_of : List ℕ → ℕ → List ℕ
norms_of ws zero = []
norms_of ws (suc n) = (get_or ws 0 0 + word_size * get_or ws 1 0) ∷ norms_of (drop 2 ws) n

unfoldable pub words_of : List ℕ → List ℕ
words_of [] = []
words_of (n ∷ ns) = (n % word_size) ∷ (n / word_size) ∷ words_of ns

-- norm r
abbrev pub norm_at : List ℕ → ℕ → ℕ
norm_at ws r = two_words (get_or ws (2 * r) 0) (get_or ws (2 * r + 1) 0)
