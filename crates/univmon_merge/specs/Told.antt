-- "The old true or false follows from them.": what the list of a merge decides.
use Rattle.std.specs.Prelude.{◌≡◌, Bool, true, false, cond, ◌&&◌, List, [], ◌∷◌, ℕ, ◌+◌, ◌*◌, ◌<◌, get_or, eqb, ltb}
use Rattle.words.specs.Parts.{part}
use Rattle.header.specs.Header.{Headed}
use Rattle.layout.specs.Slices.{Lent, view}
use Rattle.layout.specs.Outcomes.{Outcome}
use Rattle.univmon_merge.specs.Merges.{merge_answers, merge_call}

-- of places, two words each: how many say that a key was seated, and whether none says that one was displaced or turned away
unfoldable pub seats_told : List ℕ → ℕ
seats_told [] = 0
seats_told (c ∷ []) = 0
seats_told (c ∷ k ∷ xs) = cond (eqb c 2) 1 0 + seats_told xs

unfoldable pub none_lost : List ℕ → Bool
none_lost [] = true
none_lost (c ∷ []) = true
none_lost (c ∷ k ∷ xs) = ltb c 3 && none_lost xs

-- the words of layer l's places in a merge's list
abbrev pub layer_words : ℕ → List ℕ → ℕ → List ℕ
layer_words heap list l = part (4 * heap * l) (4 * heap) list

-- a layer's length is the number of its keys that were seated; its flag is up exactly if both were and no key was lost
pub record MergeDecided (r q t : Lent) (list : List ℕ) : Type 0 where
  pub lens : (l : ℕ) → l < r.head.shape.layers → get_or t.head.lens l 0 ≡ seats_told (layer_words r.head.shape.heap_size list l)
  pub flags : (l : ℕ) → l < r.head.shape.layers
      → get_or t.head.flags l false
      ≡ get_or r.head.flags l false && get_or q.head.flags l false && none_lost (layer_words r.head.shape.heap_size list l)

-- after an accepted merge of q into r; the proof stands in proofs/Told.antt, `merge_decides`
abbrev pub MergeDecides : Type 0
MergeDecides = (r q t : Lent) → Headed r.head → merge_call r q ≡ Outcome.yes t → MergeDecided r q t (merge_answers (view r) (view q))
