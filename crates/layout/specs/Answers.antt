-- The lists in which calls hand on what offers did: "Both updates, the delta and the merge hand on these answers, one per layer touched, and a merge one per key."
use Rattle.std.specs.Prelude.{ℕ, zero, suc, ◌+◌, ◌*◌, ◌<◌, ◌≡◌, Bool, false, cond, ◌&&◌, ◌||◌, List, [], ◌∷◌, ◌++◌, length, get_or, drop, eqb, leb, ltb}
use Rattle.heap.specs.declared.Answer.{Answer}
use Rattle.heap.specs.Places.{places}
use Rattle.header.specs.declared.Header.{Header}
use Rattle.layout.specs.Outcomes.{Outcome}

-- n places for each of k layers from l on, "layers in turn", with the answers that f gives for a layer
unfoldable pub layer_places : ℕ → (ℕ → List Answer) → ℕ → ℕ → List ℕ
layer_places n f zero l = []
layer_places n f (suc k) l = places n (f l) ++ layer_places n f k (suc l)

-- one of many layers from the first on
abbrev pub among : ℕ → ℕ → ℕ → Bool
among many first l = leb first l && ltb l (many + first)

-- the answer of a layer that is one of them
abbrev pub touched_answer : (ℕ → Answer) → ℕ → ℕ → ℕ → List Answer
touched_answer f many first l = cond (among many first l) (f l ∷ []) []

-- "The list of an update or a delta has one place a layer, at the layer's number.": many layers from the first on are touched
abbrev pub touched_places : (ℕ → Answer) → ℕ → ℕ → ℕ → List ℕ
touched_places f many first layers = layer_places 1 (touched_answer f many first) layers 0

-- "A shorter list is 16, last.": a call that is lent a list of n words, where `least` are asked for
abbrev pub list_call : ℕ → ℕ → Outcome → Outcome
list_call least n (Outcome.no m) = Outcome.no m
list_call least n (Outcome.yes t) = cond (ltb n least) (Outcome.no 16) (Outcome.yes t)

-- the list that a call with the number n leaves: as it was on a refusal; else what it tells, and "anything past the last layer's places remains"
unfoldable pub list_left : ℕ → List ℕ → List ℕ → List ℕ
list_left n told list = cond (eqb n 0) (told ++ drop (length told) list) list

-- ---- what a list with one place a layer decides

-- the first word of a layer's place
abbrev pub code_at : List ℕ → ℕ → ℕ
code_at list l = get_or list (2 * l) 0

-- "The old true or false follows from them.": false where a key was displaced or turned away. The header h becomes g: a length grows exactly where a key was
-- seated, and a flag falls exactly where the old answer is false, or where a layer is touched and not every insert was promoted
pub record Decides (every : Bool) (list : List ℕ) (h g : Header) : Type 0 where
  pub lens : (l : ℕ) → l < h.shape.layers → get_or g.lens l 0 ≡ get_or h.lens l 0 + cond (eqb (code_at list l) 2) 1 0
  pub flags : (l : ℕ) → l < h.shape.layers
      → get_or g.flags l false ≡ get_or h.flags l false && (ltb (code_at list l) 3 && (eqb (code_at list l) 0 || every))
