-- A decimal that is read is the writing of its number: nothing else is read. Assumes nothing.
use Prim.Native.Nat.{ℕ, zero, suc, ◌+◌, ◌-◌, ◌*◌, ◌/◌, ◌%◌, ◌^◌, ◌≤◌, ◌<◌}
use mathlib.Core.Path.{◌≡◌, refl, sym, ap, ◌∙◌}
use mathlib.Core.Bool.{Bool, true, false, cond, not}
use mathlib.Core.List.{List, [], ◌∷◌, ◌++◌, append_assoc}
use Rattle.std.specs.Prelude.{Some, None}
use lib.ListN.{length, get_or, drop, drop_of_length-le}
use lib.Seq.{drop-cons}
use lib.Dec.{eqb, ltb, leb}
use native.Mathlib.Omega.{arith}
use native.Mathlib.Numerals.{add-one}
use borrow.Author.Tests.{ltb-true, ltb-false, leb-true, leb-false, eqb-true, eqb-false}
use Rattle.text.specs.Decimals.{Num, is_digit, num_from, dec_from, stopped, field_at, dec, Word}
use Rattle.text.proofs.DecTexts.{dec-small, dec-step}
use Rattle.text.proofs.Spots.{value-of, place-of}
use Rattle.text.proofs.Walks.{digit_low, digit-high, num_stop, num_over, num_more, num_end}

clash : (v i : ℕ) → ◌≡◌ {A = Num} None (Some (v, i)) → ⊥
clash v i e = let z : ◌≡◌ {A = ℕ} 0 1 = cc in omega arith

-- the text from a place on is a written number and what is left from place j on
pub record Written (s : List ℕ) (here : List ℕ) (n j : ℕ) : Type 0 where
  pub word : Word n
  pub text : here ≡ dec n ++ drop j s

same : (s : List ℕ) (v i n j : ℕ) → ◌≡◌ {A = Num} (Some (v, i)) (Some (n, j)) → Word v → Written s (dec v ++ drop i s) n j
same s v i n j e k = let a : v ≡ n = value-of e in let b : i ≡ j = place-of e in record { word = omega arith; text = rw (a, b) }

push-digit : (v b : ℕ) → 1 ≤ v → 48 ≤ b → b ≤ 57 → v * 10 + (b - 48) < 2 ^ 64 → dec (v * 10 + (b - 48)) ≡ dec v ++ (b ∷ [])
push-digit v b o l h k =
    let d : (v * 10 + (b - 48)) / 10 ≡ v = omega arith in
    let m : 48 + (v * 10 + (b - 48)) % 10 ≡ b = omega arith in
    dec-step (v * 10 + (b - 48)) (omega arith) (omega arith) ∙ rw (d, m)

step_is : (s : List ℕ) (v i n j : ℕ) → i < length s → 1 ≤ v → is_digit (get_or s i 0) ≡ true → v * 10 + (get_or s i 0 - 48) < 2 ^ 64
    → Written s (dec (v * 10 + (get_or s i 0 - 48)) ++ drop (i + 1) s) n j → Written s (dec v ++ drop i s) n j
step_is s v i n j l o y k e =
    let b = get_or s i 0 in
    let p = push-digit v b o (digit_low b y) (digit-high b y) k in
    let c : drop i s ≡ b ∷ drop (i + 1) s = rw add-one (drop-cons s i 0 l) in
    record {
      word = e.word;
      text = ap (λ (z : List ℕ). dec v ++ z) c ∙ sym (append_assoc (dec v) (b ∷ []) (drop (i + 1) s)) ∙ ap (λ (z : List ℕ). z ++ drop (i + 1) s) (sym p) ∙ e.text;
    }

-- digits after digits whose value v is not 0; f bounds what is left of s
num-sound : (f : ℕ) (s : List ℕ) (v i n j : ℕ) → length s ≤ i + f → 1 ≤ v → Word v → num_from v i (drop i s) ≡ Some (n, j) → Written s (dec v ++ drop i s) n j
num-sound zero s v i n j h o k e = same s v i n j (sym (num_end s v i (omega arith)) ∙ e) k
num-sound (suc f) s v i n j h o k e = go (λ a b c. num-sound f s (v * 10 + (get_or s i 0 - 48)) (i + 1) n j (omega arith) a b c) (ltb i (length s)) refl (is_digit (get_or s i 0)) refl (leb (2 ^ 64) (v * 10 + (get_or s i 0 - 48))) refl
  where
    go : (1 ≤ v * 10 + (get_or s i 0 - 48) → Word (v * 10 + (get_or s i 0 - 48)) → num_from (v * 10 + (get_or s i 0 - 48)) (i + 1) (drop (i + 1) s) ≡ Some (n, j) → Written s (dec (v * 10 + (get_or s i 0 - 48)) ++ drop (i + 1) s) n j)
        → (t : Bool) → ltb i (length s) ≡ t → (u : Bool) → is_digit (get_or s i 0) ≡ u → (w : Bool) → leb (2 ^ 64) (v * 10 + (get_or s i 0 - 48)) ≡ w
        → Written s (dec v ++ drop i s) n j
    go r false p u q w x = same s v i n j (sym (num_end s v i (ltb-false i (length s) p)) ∙ e) k
    go r true p false q w x = same s v i n j (sym (num_stop s v i (ltb-true i (length s) p) q) ∙ e) k
    go r true p true q true x = absurd (clash n j (sym (num_over s v i (ltb-true i (length s) p) q (leb-true (2 ^ 64) (v * 10 + (get_or s i 0 - 48)) x)) ∙ e))
    go r true p true q false x =
        let b : v * 10 + (get_or s i 0 - 48) < 2 ^ 64 = leb-false (2 ^ 64) (v * 10 + (get_or s i 0 - 48)) x in
        step_is s v i n j (ltb-true i (length s) p) o q b (r (omega arith) b (sym (num_more s v i (ltb-true i (length s) p) q b) ∙ e))

dec-cons : (s : List ℕ) (i : ℕ) → i < length s → dec_from i (drop i s) ≡ cond (eqb (get_or s i 0) 48) (Some (0, suc i)) (cond (not (is_digit (get_or s i 0))) None (num_from 0 i (drop i s)))
unfolding dec_from
dec-cons s i l = rw (drop-cons s i 0 l)

dec-none : (s : List ℕ) (i : ℕ) → length s ≤ i → dec_from i (drop i s) ≡ None
unfolding dec_from
dec-none s i l = rw (drop_of_length-le s l)

-- the first digit is not 0
first_is : (s : List ℕ) (i n j : ℕ) → i < length s → is_digit (get_or s i 0) ≡ true → (get_or s i 0 ≡ 48 → ⊥) → num_from 0 i (drop i s) ≡ Some (n, j) → Written s (drop i s) n j
first_is s i n j l y z e =
    let b = get_or s i 0 in
    let lo = digit_low b y in
    let hi = digit-high b y in
    let d : 48 + (b - 48) ≡ b = omega arith in
    let v : 0 * 10 + (b - 48) ≡ b - 48 = omega arith in
    let o : 1 ≤ b - 48 = omega (arith, z) in
    let m : num_from (b - 48) (i + 1) (drop (i + 1) s) ≡ Some (n, j) = ap (λ (x : ℕ). num_from x (i + 1) (drop (i + 1) s)) (sym v) ∙ sym (num_more s 0 i l y (omega arith)) ∙ e in
    let r = num-sound (length s) s (b - 48) (i + 1) n j (omega arith) o (omega arith) m in
    let c : drop i s ≡ b ∷ drop (i + 1) s = rw add-one (drop-cons s i 0 l) in
    let t : dec (b - 48) ≡ b ∷ [] = dec-small (b - 48) (omega arith) ∙ ap (λ (x : ℕ). x ∷ []) d in
    record { word = r.word; text = c ∙ rw t at r.text }

-- a decimal that is read was written
pub dec-sound : (s : List ℕ) (i n j : ℕ) → dec_from i (drop i s) ≡ Some (n, j) → Written s (drop i s) n j
dec-sound s i n j e = go (ltb i (length s)) refl (eqb (get_or s i 0) 48) refl (is_digit (get_or s i 0)) refl
  where
    go : (t : Bool) → ltb i (length s) ≡ t → (u : Bool) → eqb (get_or s i 0) 48 ≡ u → (w : Bool) → is_digit (get_or s i 0) ≡ w → Written s (drop i s) n j
    go false p u q w x = absurd (clash n j (sym (dec-none s i (ltb-false i (length s) p)) ∙ e))
    go true p true q w x =
        let l = ltb-true i (length s) p in
        let a : ◌≡◌ {A = Num} (Some (0, suc i)) (Some (n, j)) = sym (dec-cons s i l ∙ rw q) ∙ e in
        let z : 0 ≡ n = value-of a in
        let y : suc i ≡ j = place-of a in
        let b : get_or s i 0 ≡ 48 = eqb-true (get_or s i 0) 48 q in
        record { word = omega arith; text = rw (← z, ← y, dec-small 0 (omega arith)) (drop-cons s i 0 l ∙ rw b) }
    go true p false q false x = absurd (clash n j (sym (dec-cons s i (ltb-true i (length s) p) ∙ rw (q, x)) ∙ e))
    go true p false q true x = first_is s i n j (ltb-true i (length s) p) x (eqb-false (get_or s i 0) 48 q) (sym (dec-cons s i (ltb-true i (length s) p) ∙ rw (q, x)) ∙ e)

-- a decimal with the byte stop after it: the number, its text, and what is left from place j on
pub record Field (s : List ℕ) (i stop n j : ℕ) : Type 0 where
  pub word : Word n
  pub text : drop i s ≡ dec n ++ (stop ∷ drop j s)

pub field-sound : (s : List ℕ) (i stop n j : ℕ) → field_at s i stop ≡ Some (n, j) → Field s i stop n j
unfolding field_at stopped
field-sound s i stop n j e = go (dec_from i (drop i s)) refl e
  where
    end : (v k : ℕ) → dec_from i (drop i s) ≡ Some (v, k) → (t : Bool) → leb (length s) k ≡ t → (u : Bool) → eqb (get_or s k 0) stop ≡ u → cond {A = Num} t None (cond {A = Num} u (Some (v, suc k)) None) ≡ Some (n, j) → Field s i stop n j
    end v k d true p u q r = absurd (clash n j r)
    end v k d false p false q r = absurd (clash n j r)
    end v k d false p true q r =
        let a : v ≡ n = value-of r in
        let b : suc k ≡ j = place-of r in
        let w = dec-sound s i v k d in
        let c : drop k s ≡ get_or s k 0 ∷ drop (suc k) s = drop-cons s k 0 (leb-false (length s) k p) in
        let g : get_or s k 0 ≡ stop = eqb-true (get_or s k 0) stop q in
        record { word = omega (arith, w.word); text = rw (← a, ← b) (w.text ∙ ap (λ (z : List ℕ). dec v ++ z) (c ∙ rw g)) }

    go : (m : Num) → dec_from i (drop i s) ≡ m → stopped s stop m ≡ Some (n, j) → Field s i stop n j
    go (Some (v, k)) d r = end v k d (leb (length s) k) refl (eqb (get_or s k 0) stop) refl r
    go None d r = absurd (clash n j r)
