-- A list that is told what offers did, place by place, as the code goes.
use Rattle.std.specs.Prelude.{ℕ, ◌+◌, ◌*◌, List, [], ◌∷◌}
use Rattle.words.specs.Parts.{put_part}
use Rattle.heap.specs.declared.Answer.{Answer}
use Rattle.heap.specs.Places.{places}

-- place i tells an answer
unfoldable pub tell_at : List ℕ → ℕ → Answer → List ℕ
tell_at list i a = put_part (2 * i) 2 list (places 1 (a ∷ []))

-- places from i on tell answers in turn
unfoldable pub tell_all : List ℕ → ℕ → List Answer → List ℕ
tell_all list i [] = list
tell_all list i (a ∷ xs) = tell_all (tell_at list i a) (i + 1) xs
