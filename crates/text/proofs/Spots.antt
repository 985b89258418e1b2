-- Texts at places: what `drop i s` begins with says what stands at place i of s. Assumes nothing.
use Prim.Native.Nat.{ℕ, suc, ◌+◌, ◌-◌, ◌≤◌, ◌<◌}
use mathlib.Core.Path.{◌≡◌, refl, sym, ap, ◌∙◌}
use mathlib.Core.Bool.{Bool, true, false, ◌&&◌}
use mathlib.Core.List.{List, [], ◌∷◌, ◌++◌}
use Rattle.std.specs.Prelude.{Option, Some}
use lib.ListN.{length, get_or, drop, length-append, length-drop, get_or-eq_default}
use lib.Seq.{drop-cons, get_or-drop, drop-drop, get_or-append_seam, drop-append_seam}
use lib.Dec.{eqb, ltb}
use native.Mathlib.Omega.{arith}
use borrow.Author.Tests.{eq-eqb, eqb-true, ltb-true, ltb-false}
use Rattle.words.proofs.Bools.{never}
use Rattle.text.specs.Words.{is_prefix}

tail_of : {x y : ℕ} {xs ys : List ℕ} → ◌≡◌ {A = List ℕ} (x ∷ xs) (y ∷ ys) → xs ≡ ys
tail_of q = cc

-- two readings that are the same have the same value and the same place
pub value-of : {A : Type 0} {a b : A} {i j : ℕ} → ◌≡◌ {A = Option (A × ℕ)} (Some (a, i)) (Some (b, j)) → a ≡ b
value-of {A} {a} {b} {i} {j} e = let p : ◌≡◌ {A = A × ℕ} (a, i) (b, j) = cc in ap (λ (x : A × ℕ). x.0) p

pub place-of : {A : Type 0} {a b : A} {i j : ℕ} → ◌≡◌ {A = Option (A × ℕ)} (Some (a, i)) (Some (b, j)) → i ≡ j
place-of {A} {a} {b} {i} {j} e = let p : ◌≡◌ {A = A × ℕ} (a, i) (b, j) = cc in ap (λ (x : A × ℕ). x.1) p

-- the byte stop stands at place j of s, and t is what is left past it
pub record Stops (s : List ℕ) (j stop : ℕ) (t : List ℕ) : Type 0 where
  pub inside : j < length s
  pub byte : get_or s j 0 ≡ stop
  pub rest : drop (suc j) s ≡ t

-- a text a with the byte stop after it
pub past : (s a t : List ℕ) (i stop : ℕ) → drop i s ≡ a ++ (stop ∷ t) → Stops s (i + length a) stop t
past s a t i stop e =
    let l : length s - i ≡ length a + suc (length t) = sym (length-drop i s) ∙ ap length e ∙ length-append a (stop ∷ t) in
    let g : get_or s (i + length a) 0 ≡ stop = sym (get_or-drop i s (length a) 0) ∙ ap (λ (z : List ℕ). get_or z (length a) 0) e ∙ get_or-append_seam a stop t 0 in
    let d : drop (i + length a) s ≡ stop ∷ t = sym (drop-drop (length a) i s) ∙ ap (drop (length a)) e ∙ drop-append_seam a (stop ∷ t) in
    let c = drop-cons s (i + length a) 0 (omega arith) in
    record { inside = omega arith; byte = g; rest = tail_of (sym c ∙ d) }

-- one byte
pub here : (s t : List ℕ) (i b : ℕ) → drop i s ≡ b ∷ t → Stops s i b t
here s t i b e = let z : i + 0 ≡ i = omega arith in rw z at (past s [] t i b e)

-- a text of a known length, with what is left past it
pub over : (s a t : List ℕ) (i n : ℕ) → length a ≡ n → drop i s ≡ a ++ t → drop (i + n) s ≡ t
over s a t i n l e = rw (← l) (sym (drop-drop (length a) i s) ∙ ap (drop (length a)) e ∙ drop-append_seam a t)

-- a byte that is not 0 stands inside the text
pub byte_inside : (s : List ℕ) (i b : ℕ) → get_or s i 0 ≡ suc b → i < length s
byte_inside s i b e = go (ltb i (length s)) refl
  where
    go : (t : Bool) → ltb i (length s) ≡ t → i < length s
    go true q = ltb-true i (length s) q
    go false q = absurd (omega (arith, e, get_or-eq_default s 0 (ltb-false i (length s) q)))

pub byte_at : (s : List ℕ) (i b : ℕ) → get_or s i 0 ≡ suc b → drop i s ≡ suc b ∷ drop (i + 1) s
byte_at s i b e = let z : i + 1 ≡ suc i = omega arith in drop-cons s i 0 (byte_inside s i b e) ∙ rw (e, z)

-- a place in a text with nothing behind it is the end
pub at_end : (s : List ℕ) (i : ℕ) → drop i s ≡ [] → i ≤ length s → i ≡ length s
at_end s i e h = let l : length s - i ≡ 0 = sym (length-drop i s) ∙ ap length e in omega arith

-- ---- words, both ways

pub word-reads : (w t : List ℕ) → is_prefix w (w ++ t) ≡ true
unfolding is_prefix
word-reads [] t = refl
word-reads (b ∷ w) t = rw (eq-eqb b b refl) (word-reads w t)

pub word_is : (w s : List ℕ) → is_prefix w s ≡ true → s ≡ w ++ drop (length w) s
unfolding is_prefix
word_is [] s e = refl
word_is (b ∷ w) [] e = absurd (never e)
word_is (b ∷ w) (x ∷ s) e = go (word_is w s) (eqb x b) refl e
  where
    go : (is_prefix w s ≡ true → s ≡ w ++ drop (length w) s) → (t : Bool) → eqb x b ≡ t → t && is_prefix w s ≡ true → ◌≡◌ {A = List ℕ} (x ∷ s) (b ∷ (w ++ drop (length w) s))
    go r true p q = let a : x ≡ b = eqb-true x b p in let d = r q in rw a (ap (λ (z : List ℕ). b ∷ z) d)
    go r false p q = absurd (never q)
