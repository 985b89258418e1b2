-- A list that is told layer by layer, as the code goes.
use Rattle.std.specs.Prelude.{ℕ, zero, suc, ◌*◌, Bool, List, [], ◌∷◌, ltb}
use Rattle.words.specs.Parts.{put_part}
use Rattle.heap.specs.declared.Answer.{Answer}
use Rattle.heap.specs.Places.{places}

-- the n places of layer l tell these answers
unfoldable pub put_places : ℕ → List ℕ → ℕ → List Answer → List ℕ
put_places n list l xs = put_part (2 * n * l) (2 * n) list (places n xs)

-- those of k layers from l on tell f's
unfoldable pub tell_layers : ℕ → (ℕ → List Answer) → ℕ → ℕ → List ℕ → List ℕ
tell_layers n f zero l list = list
tell_layers n f (suc k) l list = tell_layers n f k (suc l) (put_places n list l (f l))

-- 16 as a test behind others, of a list of n words where `least` are asked for
abbrev pub list_tests : ℕ → ℕ → List (Bool × ℕ)
list_tests least n = (ltb n least, 16) ∷ []
