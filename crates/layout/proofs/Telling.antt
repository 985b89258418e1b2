-- A list that is told layer by layer. Assumes nothing.
use mathlib.Core.Path.{◌≡◌, refl, sym, ap, ap₂, ◌∙◌}
use Prim.Native.Nat.{ℕ, zero, suc, ◌+◌, ◌-◌, ◌*◌, ◌≤◌, ◌<◌}
use native.Mathlib.Omega.{arith}
use native.Mathlib.Nat.{mul-zero, mul-suc, zero-add, add-zero, suc-add}
use native.Mathlib.Numerals.{add-one}
use mathlib.Core.List.{List, [], ◌∷◌, ◌++◌, append_assoc}
use lib.ListN.{length, take, drop, replicate, length-append, length-drop, take-append-drop, length-replicate, replicate-append-replicate}
use lib.Seq.{take_at, drop_at, drop-append-le, length-take-le}
use borrow.Author.Tests.{ne_eqb, le-leb, lt-leb, lt-ltb, le-ltb}
use Rattle.words.specs.Parts.{part}
use Rattle.words.proofs.Parts.{length-put}
use Rattle.heap.specs.declared.Answer.{Answer}
use Rattle.heap.specs.Places.{places}
use Rattle.heap.specs.inner.Telling.{tell_at}
use Rattle.heap.proofs.Places.{length-places, no_places}
use Rattle.layout.specs.Answers.{layer_places, touched_answer, touched_places, list_left}
use Rattle.layout.specs.inner.Telling.{put_places, tell_layers}

-- one place of a list is a layer's places where each has one
pub tell_is : (list : List ℕ) (l : ℕ) (a : Answer) → tell_at list l a ≡ put_places 1 list l (a ∷ [])
unfolding tell_at put_places
tell_is list l a = refl

-- ---- lengths

pub length-layers : (n : ℕ) (f : ℕ → List Answer) (k l : ℕ) → length (layer_places n f k l) ≡ 2 * n * k
unfolding layer_places
length-layers n f zero l = sym (mul-zero (2 * n))
length-layers n f (suc k) l =
    omega (arith, length-append (places n (f l)) (layer_places n f k (suc l)), length-places n (f l), length-layers n f k (suc l), mul-suc (2 * n) k)

-- ---- told in turn, the layers' places are those of the definition

told-next : (n : ℕ) (ps qs : List ℕ) (l : ℕ) (xs : List Answer) → length ps ≡ 2 * n * l → put_places n (ps ++ qs) l xs ≡ (ps ++ places n xs) ++ drop (2 * n) qs
unfolding put_places
told-next n ps qs l xs e = rw (take_at ps qs (2 * n * l) e, drop_at ps qs (2 * n * l) e) (sym (append_assoc ps (places n xs) (drop (2 * n) qs)))

pub told-layers : (n : ℕ) (f : ℕ → List Answer) (k l : ℕ) (ps qs rs : List ℕ) → length ps ≡ 2 * n * l → length qs ≡ 2 * n * k
    → tell_layers n f k l (ps ++ (qs ++ rs)) ≡ ps ++ (layer_places n f k l ++ rs)
unfolding tell_layers layer_places
told-layers n f zero l ps [] rs e h = refl
told-layers n f zero l ps (q ∷ qs) rs e h = absurd (omega (arith, h, mul-zero (2 * n)))
told-layers n f (suc k) l ps qs rs e h =
    ap (tell_layers n f k (suc l)) (told-next n ps (qs ++ rs) l (f l) e ∙ ap (λ (z : List ℕ). (ps ++ places n (f l)) ++ z) (drop-append-le (2 * n) qs rs (omega (arith, h, mul-suc (2 * n) k))))
    ∙ told-layers n f k (suc l) (ps ++ places n (f l)) (drop (2 * n) qs) rs (omega (arith, length-append ps (places n (f l)), e, length-places n (f l), mul-suc (2 * n) l))
    (omega (arith, length-drop (2 * n) qs, h, mul-suc (2 * n) k))
    ∙ append_assoc ps (places n (f l)) (layer_places n f k (suc l) ++ rs)
    ∙ ap (λ (z : List ℕ). ps ++ z) (sym (append_assoc (places n (f l)) (layer_places n f k (suc l)) rs))

-- ---- layers that are not touched tell nothing

layers_split : (n : ℕ) (f : ℕ → List Answer) (a b l : ℕ) → layer_places n f (a + b) l ≡ layer_places n f a l ++ layer_places n f b (a + l)
unfolding layer_places
layers_split n f zero b l = ap₂ (layer_places n f) (zero-add b) (sym (zero-add l))
layers_split n f (suc a) b l =
    ap (λ (k : ℕ). layer_places n f k l) (suc-add a b)
    ∙ ap (λ (z : List ℕ). places n (f l) ++ z) (layers_split n f a b (suc l) ∙ ap (λ (m : ℕ). layer_places n f a (suc l) ++ layer_places n f b m) at)
    ∙ sym (append_assoc (places n (f l)) (layer_places n f a (suc l)) (layer_places n f b (suc a + l)))
  where
    at : a + suc l ≡ suc a + l
    at = omega arith

-- a layer's places are that part of the list
pub layer-part : (n : ℕ) (f : ℕ → List Answer) (k l : ℕ) → l < k → part (2 * n * l) (2 * n) (layer_places n f k 0) ≡ places n (f l)
unfolding layer_places
layer-part n f k l h =
    ap (λ (m : ℕ). part (2 * n * l) (2 * n) (layer_places n f m 0)) whole
    ∙ ap (part (2 * n * l) (2 * n)) (layers_split n f l (suc rest) 0)
    ∙ ap (take (2 * n)) (drop_at (layer_places n f l 0) (layer_places n f (suc rest) (l + 0)) (2 * n * l) (length-layers n f l 0))
    ∙ take_at (places n (f (l + 0))) (layer_places n f rest (suc (l + 0))) (2 * n) (length-places n (f (l + 0)))
    ∙ ap (λ (m : ℕ). places n (f m)) (add-zero l)
  where
    rest : ℕ
    rest = k - suc l

    whole : k ≡ l + suc (k - suc l)
    whole = omega arith

pub layers-same : (n : ℕ) (f g : ℕ → List Answer) (k l : ℕ) → ((m : ℕ) → l ≤ m → m < k + l → f m ≡ g m) → layer_places n f k l ≡ layer_places n g k l
unfolding layer_places
layers-same n f g zero l h = refl
layers-same n f g (suc k) l h =
    ap₂ (λ (x y : List ℕ). x ++ y) (ap (places n) (h l (omega arith) (omega arith))) (layers-same n f g k (suc l) (λ m p q. h m (omega arith) (omega arith)))

places-none : (n k l : ℕ) → layer_places n (λ _. []) k l ≡ replicate (2 * n * k) 0
unfolding layer_places
places-none n zero l = ap (λ (m : ℕ). replicate m 0) (sym (mul-zero (2 * n)))
places-none n (suc k) l =
    ap₂ (λ (x y : List ℕ). x ++ y) (no_places n) (places-none n k (suc l)) ∙ replicate-append-replicate (2 * n) (2 * n * k) 0 ∙ ap (λ (m : ℕ). replicate m 0) two
  where
    two : 2 * n + 2 * n * k ≡ 2 * n * suc k
    two = omega (arith, mul-suc (2 * n) k)

module _ (f : ℕ → Answer) (many first : ℕ) where
  abbrev touched : ℕ → List Answer
  touched l = touched_answer f many first l

  pub in_touched : (m : ℕ) → first ≤ m → m < many + first → touched m ≡ f m ∷ []
  in_touched m h k = rw (le-leb first m h, lt-ltb m (many + first) k)

  pub before-touched : (m : ℕ) → m < first → touched m ≡ []
  before-touched m h = rw (lt-leb first m h)

  pub after-touched : (m : ℕ) → many + first ≤ m → touched m ≡ []
  after-touched m h = rw (le-leb first m (omega arith), le-ltb m (many + first) h)

  -- the places of layers that are not touched are zeros, before and behind the touched ones
  touched_are : (n : ℕ) → first + many ≤ n → touched_places f many first n ≡ replicate (2 * first) 0 ++ (layer_places 1 (λ l. f l ∷ []) many first ++ replicate (2 * (n - (first + many))) 0)
  touched_are n h =
      ap (λ (k : ℕ). layer_places 1 touched k 0) whole
      ∙ layers_split 1 touched first (many + rest) 0
      ∙ ap₂ (λ (x y : List ℕ). x ++ y)
      (layers-same 1 touched (λ _. []) first 0 (λ m p q. before-touched m (omega arith)) ∙ places-none 1 first 0)
      (ap (λ (l : ℕ). layer_places 1 touched (many + rest) l) from ∙ layers_split 1 touched many rest first
      ∙ ap₂ (λ (x y : List ℕ). x ++ y)
      (layers-same 1 touched (λ l. f l ∷ []) many first in_touched)
      (layers-same 1 touched (λ _. []) rest (many + first) (λ m p q. after-touched m p) ∙ places-none 1 rest (many + first)))
    where
      rest : ℕ
      rest = n - (first + many)

      whole : n ≡ first + (many + rest)
      whole = omega arith

      from : first + 0 ≡ first
      from = omega arith

  -- the touched layers told in a list of zeros, before what lies past the last layer's places
  pub told-touched : (n : ℕ) (list : List ℕ) → first + many ≤ n
      → tell_layers 1 (λ l. f l ∷ []) many first (replicate (2 * n) 0 ++ drop (2 * n) list) ≡ touched_places f many first n ++ drop (2 * n) list
  told-touched n list h =
      ap (tell_layers 1 (λ l. f l ∷ []) many first) zeros
      ∙ told-layers 1 (λ l. f l ∷ []) many first (replicate (2 * first) 0) (replicate (2 * many) 0) (replicate (2 * rest) 0 ++ drop (2 * n) list) (length-replicate (2 * first) 0) (length-replicate (2 * many) 0)
      ∙ sym (ap (λ (z : List ℕ). z ++ drop (2 * n) list) (touched_are n h)
      ∙ append_assoc (replicate (2 * first) 0) (layer_places 1 (λ l. f l ∷ []) many first ++ replicate (2 * rest) 0) (drop (2 * n) list)
      ∙ ap (λ (z : List ℕ). replicate (2 * first) 0 ++ z) (append_assoc (layer_places 1 (λ l. f l ∷ []) many first) (replicate (2 * rest) 0) (drop (2 * n) list)))
    where
      rest : ℕ
      rest = n - (first + many)

      parts : 2 * n ≡ 2 * first + (2 * many + 2 * rest)
      parts = omega arith

      zeros : replicate (2 * n) 0 ++ drop (2 * n) list ≡ replicate (2 * first) 0 ++ (replicate (2 * many) 0 ++ (replicate (2 * rest) 0 ++ drop (2 * n) list))
      zeros =
          ap (λ (m : ℕ). replicate m 0 ++ drop (2 * n) list) parts
          ∙ ap (λ (z : List ℕ). z ++ drop (2 * n) list) (sym (replicate-append-replicate (2 * first) (2 * many + 2 * rest) 0))
          ∙ append_assoc (replicate (2 * first) 0) (replicate (2 * many + 2 * rest) 0) (drop (2 * n) list)
          ∙ ap (λ (z : List ℕ). replicate (2 * first) 0 ++ z)
          (ap (λ (z : List ℕ). z ++ drop (2 * n) list) (sym (replicate-append-replicate (2 * many) (2 * rest) 0)) ∙ append_assoc (replicate (2 * many) 0) (replicate (2 * rest) 0) (drop (2 * n) list))

-- all layers told, whatever the list held
pub told-all : (n : ℕ) (f : ℕ → List Answer) (k : ℕ) (list : List ℕ) → 2 * n * k ≤ length list → tell_layers n f k 0 list ≡ layer_places n f k 0 ++ drop (2 * n * k) list
told-all n f k list h =
    ap (tell_layers n f k 0) (sym (take-append-drop (2 * n * k) list))
    ∙ told-layers n f k 0 [] (take (2 * n * k) list) (drop (2 * n * k) list) (sym (mul-zero (2 * n))) (length-take-le (2 * n * k) list h)

-- ---- what a call leaves of its list

pub list-kept : (n : ℕ) (told list : List ℕ) → (n ≡ 0 → ⊥) → list ≡ list_left n told list
unfolding list_left
list-kept n told list h = rw (ne_eqb n 0 h)

pub list-told : (m : ℕ) (told list out : List ℕ) → length told ≡ m → out ≡ told ++ drop m list → out ≡ list_left 0 told list
unfolding list_left
list-told m told list out e q = q ∙ ap (λ (k : ℕ). told ++ drop k list) (sym e)

-- ---- the loop over layers

-- the same answers are told alike
pub tell_same : (n : ℕ) (f g : ℕ → List Answer) (k l : ℕ) (list : List ℕ) → ((m : ℕ) → l ≤ m → m < k + l → f m ≡ g m) → tell_layers n f k l list ≡ tell_layers n g k l list
unfolding tell_layers
tell_same n f g zero l list h = refl
tell_same n f g (suc k) l list h =
    ap (λ (xs : List Answer). tell_layers n f k (suc l) (put_places n list l xs)) (h l (omega arith) (omega arith))
    ∙ tell_same n f g k (suc l) (put_places n list l (g l)) (λ m p q. h m (omega arith) (omega arith))

-- of many layers from the first on, those before layer l are told
pub record ToldSoFar (n : ℕ) (f : ℕ → List Answer) (many first : ℕ) (list₀ list : List ℕ) (l : ℕ) : Type 0 where
  pub long : length list ≡ length list₀
  pub goes : (k : ℕ) → k + l ≡ many + first → tell_layers n f k l list ≡ tell_layers n f many first list₀

pub told-start : (n : ℕ) (f : ℕ → List Answer) (many first : ℕ) (list : List ℕ) → ToldSoFar n f many first list list first
told-start n f many first list = record { long = refl; goes = λ k q. let e : k ≡ many = omega arith in ap (λ (j : ℕ). tell_layers n f j first list) e }

pub told_on : (n : ℕ) (f : ℕ → List Answer) (many first : ℕ) (list₀ list : List ℕ) (l : ℕ) → ToldSoFar n f many first list₀ list l → 2 * n * l + 2 * n ≤ length list
    → (xs : List Answer) → xs ≡ f l → (list' : List ℕ) → list' ≡ put_places n list l xs → ToldSoFar n f many first list₀ list' (l + 1)
unfolding tell_layers put_places
told_on n f many first list₀ list l v h xs is list' e =
    record {
      long = ap length e ∙ length-put (2 * n * l) (2 * n) list (places n xs) h (length-places n xs) ∙ v.long;
      goes = λ k q. rw (add-one l, e ∙ ap (put_places n list l) is) (v.goes (suc k) (omega arith));
    }

pub told_end : (n : ℕ) (f : ℕ → List Answer) (many first : ℕ) (list₀ list : List ℕ) (l : ℕ) → ToldSoFar n f many first list₀ list l → l ≡ many + first → list ≡ tell_layers n f many first list₀
unfolding tell_layers
told_end n f many first list₀ list l v h = v.goes 0 (omega arith)
