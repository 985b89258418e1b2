-- Answers as texts, and the steps that write them. Assumes nothing.
use Prim.Native.Nat.{ℕ, suc, ◌+◌, ◌*◌, ◌≤◌, ◌<◌}
use mathlib.Core.Path.{◌≡◌, refl, ap, ◌∙◌}
use mathlib.Core.Bool.{Bool, false}
use mathlib.Core.List.{List, [], ◌∷◌, ◌++◌, append_assoc}
use lib.ListN.{length, get_or, set, drop, drop_of_length-le, length-append}
use lib.Seq.{drop-cons, sets}
use native.Mathlib.Omega.{arith}
use native.Mathlib.Numerals.{add-one}
use Rattle.text.specs.Hex.{hex_digits}
use Rattle.text.specs.Words.{bytes_of, flag_digit}
use Rattle.text.proofs.Puts.{sets_append, joined, hex_length}
use Rattle.panel_lines.specs.Answers.{flags_text, updates_text, show_text}

pub flags-step : (o : List ℕ) (fs : List Bool) (a i : ℕ) → i < length fs
    → sets o (a + 2 * i) (flags_text (drop i fs)) ≡ sets (set (set o (a + 2 * i) 32) (a + 2 * i + 1) (flag_digit (get_or fs i false))) (a + 2 * (i + 1)) (flags_text (drop (i + 1) fs))
unfolding flags_text
flags-step o fs a i h =
    let z : a + 2 * (i + 1) ≡ suc (suc (a + 2 * i)) = omega arith in
    let y : a + 2 * i + 1 ≡ suc (a + 2 * i) = omega arith in
    rw (drop-cons fs i false h, z, y, add-one)

pub flags_end : (fs : List Bool) (i : ℕ) → length fs ≤ i → flags_text (drop i fs) ≡ []
unfolding flags_text
flags_end fs i h = rw (drop_of_length-le fs h)

pub flags-length : (fs : List Bool) → length (flags_text fs) ≡ 2 * length fs
unfolding flags_text
flags-length [] = refl
flags-length (f ∷ fs) = omega (arith, flags-length fs)

field-length : (i n : ℕ) (w : List ℕ) → i + length w + 16 ≡ i + length (w ++ hex_digits 16 n)
field-length i n w = omega (arith, length-append w (hex_digits 16 n), hex_length 16 n)

regroup : (w h x i y j z f e : List ℕ) → (((((w ++ h) ++ (x ++ i)) ++ (y ++ j)) ++ z) ++ f) ++ e ≡ w ++ (h ++ (x ++ (i ++ (y ++ (j ++ (z ++ (f ++ e)))))))
regroup w h x i y j z f e = simp append_assoc

-- three texts, one after another, from place a on
pub three_put : (l o p q : List ℕ) (a i j k : ℕ) (w x y z : List ℕ) → w ++ (x ++ y) ≡ z
    → o ≡ sets l a w → i ≡ a + length w
    → p ≡ sets o i x → j ≡ i + length x
    → q ≡ sets p j y → k ≡ j + length y
    → (k ≡ a + length z) × (q ≡ sets l a z)
three_put l o p q a i j k w x y z e eo ei ep ej eq ek =
    let two : p ≡ sets l a (w ++ x) = ep ∙ rw (eo, ei) (sets_append l a w x) in
    let at : j ≡ a + length (w ++ x) = omega (arith, ei, ej, length-append w x) in
    let r = append_assoc w x y ∙ e in (
      omega (arith, ek, at, length-append (w ++ x) y, ap length r),
      eq ∙ rw (two, at) (sets_append l a (w ++ x) y) ∙ ap (sets l a) r,
    )

-- three items, a word, the flags, a text
pub show-put : (l o p q r s t : List ℕ) (h i j k m n : ℕ) (u v w x y : List ℕ) (a b c : ℕ) (fs : List Bool) (z : List ℕ)
    → u ++ (hex_digits 16 a ++ (v ++ (hex_digits 16 b ++ (w ++ (hex_digits 16 c ++ (x ++ (flags_text fs ++ y))))))) ≡ z
    → o ≡ sets l 0 (u ++ hex_digits 16 a) → h ≡ 0 + length u + 16
    → p ≡ sets o h (v ++ hex_digits 16 b) → i ≡ h + length v + 16
    → q ≡ sets p i (w ++ hex_digits 16 c) → j ≡ i + length w + 16
    → r ≡ sets q j x → k ≡ j + length x
    → s ≡ sets r k (flags_text fs) → m ≡ k + 2 * length fs
    → t ≡ sets s m y → n ≡ m + length y
    → (n ≡ length z) × (t ≡ sets l 0 z)
show-put l o p q r s t h i j k m n u v w x y a b c fs z e eo eh ep ei eq ej er ek es em et en =
    let A = u ++ hex_digits 16 a in
    let B = v ++ hex_digits 16 b in
    let C = w ++ hex_digits 16 c in
    let a1 = joined l l o 0 h [] A (refl, refl) eo (eh ∙ field-length 0 a u) in
    let a2 = joined l o p h i A B a1 ep (ei ∙ field-length h b v) in
    let a3 = joined l p q i j (A ++ B) C a2 eq (ej ∙ field-length i c w) in
    let a4 = joined l q r j k ((A ++ B) ++ C) x a3 er ek in
    let a5 = joined l r s k m (((A ++ B) ++ C) ++ x) (flags_text fs) a4 es (em ∙ rw (flags-length fs)) in
    let a6 = joined l s t m n ((((A ++ B) ++ C) ++ x) ++ flags_text fs) y a5 et en in
    let g = regroup u (hex_digits 16 a) v (hex_digits 16 b) w (hex_digits 16 c) x (flags_text fs) y ∙ e in
    (a6.1 ∙ ap length g, a6.0 ∙ ap (sets l 0) g)

pub show_is : (a b c : ℕ) (fs : List Bool) (n : ℕ)
    → bytes_of "(show (l1 " ++ (hex_digits 16 a ++ (bytes_of ") (l2 " ++ (hex_digits 16 b ++ (bytes_of ") (keys " ++ (hex_digits 16 c ++ (bytes_of ") (flags" ++ (flags_text fs ++ updates_text n))))))) ≡ show_text a b c fs n
unfolding show_text
show_is a b c fs n = refl
