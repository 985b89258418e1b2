-- The places of a list: their lengths, and how two stores tell an answer. Assumes nothing.
use mathlib.Core.Path.{◌≡◌, refl, sym, ap, ◌∙◌}
use Prim.Native.Nat.{ℕ, zero, suc, ◌+◌, ◌*◌, ◌≤◌}
use native.Mathlib.Omega.{arith}
use mathlib.Core.Bool.{cond}
use mathlib.Core.List.{List, [], ◌∷◌, ◌++◌, append_assoc}
use lib.ListN.{length, set, take, drop, replicate, length-append, length-drop, take-append-drop}
use lib.Seq.{take_at, drop_at, length-take-le, set_at}
use lib.Dec.{ltb, eqb}
use Rattle.heap.specs.declared.Answer.{Answer}
use Rattle.heap.specs.declared.Answer.TheVariants.{Rescored, Seated, Displaced, TurnedAway}
use Rattle.heap.specs.Offer.{kept_by, len_by}
use Rattle.heap.specs.Places.{code_of, displaced_key, places}
use Rattle.heap.specs.inner.Telling.{tell_at, tell_all}

-- ---- lengths

pub length-places : (n : ℕ) (xs : List Answer) → length (places n xs) ≡ 2 * n
unfolding places
length-places zero xs = refl
length-places (suc n) [] = omega (arith, length-places n [])
length-places (suc n) (a ∷ xs) = omega (arith, length-places n xs)

pub no_places : (n : ℕ) → places n [] ≡ replicate (2 * n) 0
unfolding places
no_places zero = refl
no_places (suc n) = ap (λ (l : List ℕ). 0 ∷ 0 ∷ l) (no_places n) ∙ ap (λ (m : ℕ). replicate m 0) two
  where
    two : suc (suc (2 * n)) ≡ 2 * suc n
    two = omega arith

-- ---- two stores

two_sets : (p : List ℕ) (x y u v : ℕ) (q : List ℕ) (n : ℕ) → length p ≡ n → set (set (p ++ (x ∷ y ∷ q)) n u) (n + 1) v ≡ p ++ (u ∷ v ∷ q)
two_sets p x y u v q n e =
    ap (λ (l : List ℕ). set l (n + 1) v) (set_at p x (y ∷ q) u n e ∙ sym (append_assoc p (u ∷ []) (y ∷ q)))
    ∙ set_at (p ++ (u ∷ [])) y q v (n + 1) (omega (arith, length-append p (u ∷ []), e))
    ∙ append_assoc p (u ∷ []) (v ∷ q)

two_of : (l : List ℕ) → 2 ≤ length l → (x y : ℕ) × (l ≡ x ∷ y ∷ drop 2 l)
two_of [] h = absurd (omega arith)
two_of (x ∷ []) h = absurd (omega arith)
two_of (x ∷ y ∷ l) h = (x, y, refl)

pub tell_sets : (list : List ℕ) (i : ℕ) (a : Answer) → 2 * i + 2 ≤ length list → set (set list (2 * i) (code_of a)) (2 * i + 1) (displaced_key a) ≡ tell_at list i a
unfolding tell_at places
tell_sets list i a h =
    let t = two_of (drop (2 * i) list) (omega (arith, length-drop (2 * i) list)) in
    let p = take (2 * i) list in
    let is : list ≡ p ++ (t.0 ∷ t.1 ∷ drop 2 (drop (2 * i) list)) = sym (take-append-drop (2 * i) list) ∙ ap (λ (l : List ℕ). p ++ l) t.2 in
    ap (λ (l : List ℕ). set (set l (2 * i) (code_of a)) (2 * i + 1) (displaced_key a)) is
    ∙ two_sets p t.0 t.1 (code_of a) (displaced_key a) (drop 2 (drop (2 * i) list)) (2 * i) (length-take-le (2 * i) list (omega arith))

-- ---- answers in turn

tell_next : (ps qs : List ℕ) (i : ℕ) (a : Answer) → length ps ≡ 2 * i → tell_at (ps ++ qs) i a ≡ (ps ++ places 1 (a ∷ [])) ++ drop 2 qs
unfolding tell_at
tell_next ps qs i a e =
    rw (take_at ps qs (2 * i) e, drop_at ps qs (2 * i) e)
    (sym (append_assoc ps (places 1 (a ∷ [])) (drop 2 qs)))

-- zeros from place i on tell the answers, and then stay
tell_zeros : (ps : List ℕ) (i n : ℕ) (xs : List Answer) → length ps ≡ 2 * i → length xs ≤ n → tell_all (ps ++ replicate (2 * n) 0) i xs ≡ ps ++ places n xs
unfolding tell_all places
tell_zeros ps i n [] e h = ap (λ (l : List ℕ). ps ++ l) (sym (no_places n))
tell_zeros ps i zero (a ∷ xs) e h = absurd (omega arith)
tell_zeros ps i (suc n) (a ∷ xs) e h =
    ap (λ (l : List ℕ). tell_all (tell_at (ps ++ l) i a) (i + 1) xs) (ap (λ (m : ℕ). replicate m 0) two)
    ∙ ap (λ (l : List ℕ). tell_all l (i + 1) xs) (tell_next ps (0 ∷ 0 ∷ replicate (2 * n) 0) i a e)
    ∙ tell_zeros (ps ++ places 1 (a ∷ [])) (i + 1) n xs (omega (arith, e, length-append ps (places 1 (a ∷ [])), length-places 1 (a ∷ []))) (omega arith)
    ∙ append_assoc ps (places 1 (a ∷ [])) (places n xs)
  where
    two : 2 * suc n ≡ suc (suc (2 * n))
    two = omega arith

pub told_zeros : (n : ℕ) (xs : List Answer) → length xs ≤ n → tell_all (replicate (2 * n) 0) 0 xs ≡ places n xs
told_zeros n xs h = tell_zeros [] 0 n xs refl h

pub tell_append : (list : List ℕ) (i : ℕ) (xs ys : List Answer) → tell_all list i (xs ++ ys) ≡ tell_all (tell_all list i xs) (i + length xs) ys
unfolding tell_all
tell_append list i [] ys = ap (λ (j : ℕ). tell_all list j ys) at
  where
    at : i ≡ i + 0
    at = omega arith
tell_append list i (a ∷ xs) ys = tell_append (tell_at list i a) (i + 1) xs ys ∙ ap (λ (j : ℕ). tell_all (tell_all (tell_at list i a) (i + 1) xs) j ys) at
  where
    at : i + 1 + length xs ≡ i + suc (length xs)
    at = omega arith

-- ---- what a place says: the old true or false, and the length

pub code_kept : (a : Answer) → kept_by a ≡ ltb (code_of a) 3
code_kept Rescored = refl
code_kept Seated = refl
code_kept (Displaced k) = refl
code_kept TurnedAway = refl

pub code_len : (a : Answer) (n : ℕ) → len_by a n ≡ n + cond (eqb (code_of a) 2) 1 0
code_len Rescored n = omega arith
code_len Seated n = refl
code_len (Displaced k) n = omega arith
code_len TurnedAway n = omega arith
