-- A list with one place a layer decides lengths and flags. Assumes nothing.
use mathlib.Core.Path.{◌≡◌, refl, sym, ap, ◌∙◌}
use Prim.Native.Nat.{ℕ, ◌+◌, ◌*◌, ◌<◌}
use native.Mathlib.Omega.{arith}
use native.Mathlib.Nat.{add-zero}
use native.Mathlib.Decide.{dec_lt}
use mathlib.Core.Bool.{Bool, cond, ◌&&◌, ◌||◌}
use mathlib.Core.List.{List, [], ◌∷◌}
use lib.ListN.{get_or}
use lib.Dec.{eqb, ltb}
use Rattle.words.proofs.Bools.{and-true}
use Rattle.words.proofs.Parts.{part_at}
use Rattle.heap.specs.declared.Answer.{Answer}
use Rattle.heap.specs.declared.Answer.TheVariants.{Rescored, Seated, Displaced, TurnedAway}
use Rattle.heap.specs.Offer.{kept_by, len_by}
use Rattle.heap.specs.Places.{code_of, places}
use Rattle.heap.proofs.Places.{code_len}
use Rattle.layer.specs.Layer.{Layer}
use Rattle.layout.specs.State.{State, layer_at}
use Rattle.layout.specs.Answers.{layer_places, touched_answer, touched_places, code_at, Decides}
use Rattle.layout.proofs.Replaced.{Over}
use Rattle.layout.proofs.Telling.{layer-part, in_touched, before-touched, after-touched}

-- the code in a layer's place
code-at : (f : ℕ → List Answer) (k l : ℕ) → l < k → code_at (layer_places 1 f k 0) l ≡ get_or (places 1 (f l)) 0 0
code-at f k l h =
    ap (λ (i : ℕ). get_or (layer_places 1 f k 0) i 0) (sym (add-zero (2 * l)))
    ∙ sym (part_at (2 * l) 2 0 (layer_places 1 f k 0) 0 (omega arith))
    ∙ ap (λ (xs : List ℕ). get_or xs 0 0) (layer-part 1 f k l h)

-- the old true or false and the code: a touched layer's code is not 0
kept_code : (a : Answer) (every : Bool) → (kept_by a && every) ≡ (ltb (code_of a) 3 && (eqb (code_of a) 0 || every))
kept_code Rescored every = refl
kept_code Seated every = refl
kept_code (Displaced k) every = refl
kept_code TurnedAway every = refl

-- a step whose answers say which length and which flag it leaves
module _ (f : ℕ → Layer → Layer) (a : ℕ → Answer) (every : Bool) (many first : ℕ) (s t : State) (o : Over f many first s t)
    (len : (l : ℕ) → (f l (layer_at s l)).table.len ≡ len_by (a l) (layer_at s l).table.len) (flag : (l : ℕ) → (f l (layer_at s l)).flag ≡ (layer_at s l).flag && (kept_by (a l) && every)) where
  -- of one layer, by the code in its place
  LayerDecided : ℕ → ℕ → Type 0
  LayerDecided l c = ((layer_at t l).table.len ≡ (layer_at s l).table.len + cond (eqb c 2) 1 0) × ((layer_at t l).flag ≡ (layer_at s l).flag && (ltb c 3 && (eqb c 0 || every)))

  untouched : (l : ℕ) → layer_at t l ≡ layer_at s l → LayerDecided l 0
  unfolding LayerDecided
  untouched l e = (rw e (omega arith), rw e (sym (and-true (layer_at s l).flag)))

  touched : (l : ℕ) → layer_at t l ≡ f l (layer_at s l) → LayerDecided l (code_of (a l))
  unfolding LayerDecided
  touched l e = (
    ap (λ (y : Layer). y.table.len) e ∙ len l ∙ code_len (a l) (layer_at s l).table.len,
    ap (λ (y : Layer). y.flag) e ∙ flag l ∙ ap (λ (b : Bool). (layer_at s l).flag && b) (kept_code (a l) every),
  )

  decided_at : (l : ℕ) → l < s.head.shape.layers → LayerDecided l (code_at (touched_places a many first s.head.shape.layers) l)
  unfolding places
  decided_at l h = go (dec_lt l first) (dec_lt l (many + first))
    where
      here : (xs : List Answer) → touched_answer a many first l ≡ xs → code_at (touched_places a many first s.head.shape.layers) l ≡ get_or (places 1 xs) 0 0
      here xs e = code-at (touched_answer a many first) s.head.shape.layers l h ∙ ap (λ (z : List Answer). get_or (places 1 z) 0 0) e

      go : Dec (l < first) → Dec (l < many + first) → LayerDecided l (code_at (touched_places a many first s.head.shape.layers) l)
      go (yes p) q = rw (here [] (before-touched a many first l p)) (untouched l (o.before l p h))
      go (no p) (yes q) = rw (here (a l ∷ []) (in_touched a many first l (omega arith) q)) (touched l (o.inside l (omega arith) (omega arith)))
      go (no p) (no q) = rw (here [] (after-touched a many first l (omega arith))) (untouched l (o.after l (omega arith) h))

  pub decided : Decides every (touched_places a many first s.head.shape.layers) s.head t.head
  unfolding layer_at LayerDecided
  decided = record { lens = λ l h. (decided_at l h).0; flags = λ l h. (decided_at l h).1 }
