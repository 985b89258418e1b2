-- A decimal that is written is read back as its number. Assumes nothing.
use Prim.Native.Nat.{ℕ, zero, suc, ◌+◌, ◌-◌, ◌*◌, ◌/◌, ◌%◌, ◌^◌, ◌≤◌, ◌<◌}
use mathlib.Core.Path.{◌≡◌, refl, ap, ◌∙◌}
use mathlib.Core.Bool.{Bool, true, false}
use mathlib.Core.List.{List, [], ◌∷◌, ◌++◌, append_assoc}
use Rattle.std.specs.Prelude.{Some}
use lib.ListN.{length, get_or, drop, length-append}
use lib.Dec.{eqb, ltb}
use native.Mathlib.Omega.{arith}
use native.Mathlib.Numerals.{add-one}
use borrow.Author.Tests.{eq-eqb, ne_eqb, le-ltb, le-leb, lt-leb, ltb-true, ltb-false, eqb-true, eqb-false}
use Rattle.text.specs.Decimals.{is_digit, num_from, dec_from, stopped, field_at, dec, Word}
use Rattle.text.proofs.DecTexts.{dec-small, dec-step, dec-head}
use Rattle.text.proofs.Spots.{past}

digit_yes : (d : ℕ) → d < 10 → is_digit (48 + d) ≡ true
unfolding is_digit
digit_yes d h = rw (le-ltb (48 + d) 48 (omega arith)) (le-leb (48 + d) 57 (omega arith))

num-digit : (v i d : ℕ) (t : List ℕ) → d < 10 → v * 10 + d < 2 ^ 64 → num_from v i ((48 + d) ∷ t) ≡ num_from (v * 10 + d) (suc i) t
unfolding num_from
num-digit v i d t h k = let e : 48 + d - 48 ≡ d = omega arith in rw (digit_yes d h, e, lt-leb (2 ^ 64) (v * 10 + d) k)

one-digit : (n i : ℕ) (t : List ℕ) → n < 10 → num_from 0 i (dec n ++ t) ≡ num_from n (i + length (dec n)) t
one-digit n i t h =
    let z : 0 * 10 + n ≡ n = omega arith in
    rw (dec-small n h, add-one) (num-digit 0 i n t h (omega arith) ∙ ap (λ (m : ℕ). num_from m (suc i) t) z)

more_digits : (n i : ℕ) (t : List ℕ) → 10 ≤ n → Word n
    → num_from 0 i (dec (n / 10) ++ ((48 + n % 10) ∷ t)) ≡ num_from (n / 10) (i + length (dec (n / 10))) ((48 + n % 10) ∷ t)
    → num_from 0 i (dec n ++ t) ≡ num_from n (i + length (dec n)) t
more_digits n i t u k r =
    let s = dec-step n u (omega arith) in
    let w : n / 10 * 10 + n % 10 ≡ n = omega arith in
    let l : i + length (dec n) ≡ suc (i + length (dec (n / 10))) = omega (arith, ap length s, length-append (dec (n / 10)) ((48 + n % 10) ∷ [])) in
    let x = num-digit (n / 10) (i + length (dec (n / 10))) (n % 10) t (omega arith) (omega arith) in
    let y : dec n ++ t ≡ dec (n / 10) ++ ((48 + n % 10) ∷ t) = ap (λ (z : List ℕ). z ++ t) s ∙ append_assoc (dec (n / 10)) ((48 + n % 10) ∷ []) t in
    rw (l, y) (r ∙ x ∙ ap (λ (m : ℕ). num_from m (suc (i + length (dec (n / 10)))) t) w)

-- f bounds n, so that the recursion on n / 10 ends
num-dec : (f n i : ℕ) (t : List ℕ) → n ≤ f → Word n → num_from 0 i (dec n ++ t) ≡ num_from n (i + length (dec n)) t
num-dec zero n i t h k = one-digit n i t (omega arith)
num-dec (suc f) n i t h k = go (λ u. num-dec f (n / 10) i ((48 + n % 10) ∷ t) (omega (arith, u)) (omega arith)) (ltb n 10) refl
  where
    go : (10 ≤ n → num_from 0 i (dec (n / 10) ++ ((48 + n % 10) ∷ t)) ≡ num_from (n / 10) (i + length (dec (n / 10))) ((48 + n % 10) ∷ t))
        → (b : Bool) → ltb n 10 ≡ b → num_from 0 i (dec n ++ t) ≡ num_from n (i + length (dec n)) t
    go r true e = one-digit n i t (ltb-true n 10 e)
    go r false e = more_digits n i t (ltb-false n 10 e) k (r (ltb-false n 10 e))

-- what follows a decimal does not begin with a digit
abbrev pub Ends : List ℕ → Type 0
Ends [] = Unit {0}
Ends (b ∷ bs) = is_digit b ≡ false

num-stops : (n i : ℕ) (t : List ℕ) → Ends t → num_from n i t ≡ Some (n, i)
unfolding num_from
num-stops n i [] e = refl
num-stops n i (b ∷ t) e = rw e

dec_nonzero : (i d : ℕ) (t : List ℕ) → 1 ≤ d → d < 10 → dec_from i ((48 + d) ∷ t) ≡ num_from 0 i ((48 + d) ∷ t)
unfolding dec_from
dec_nonzero i d t l h = rw (ne_eqb (48 + d) 48 (λ e. omega (arith, e)), digit_yes d h)

dec-zero : (i : ℕ) (t : List ℕ) → dec_from i (48 ∷ t) ≡ Some (0, suc i)
unfolding dec_from
dec-zero i t = refl

pos_of : (n : ℕ) → (n ≡ 0 → ⊥) → 1 ≤ n
pos_of zero h = absurd (h refl)
pos_of (suc n) h = omega arith

-- a decimal, at the end of the text or before a byte that is no digit
pub dec-reads : (n i : ℕ) (t : List ℕ) → Word n → Ends t → dec_from i (dec n ++ t) ≡ Some (n, i + length (dec n))
dec-reads n i t k e = go (eqb n 0) refl
  where
    go : (b : Bool) → eqb n 0 ≡ b → dec_from i (dec n ++ t) ≡ Some (n, i + length (dec n))
    go true q =
        let z : n ≡ 0 = eqb-true n 0 q in
        rw (z, dec-small 0 (omega arith), add-one) (dec-zero i t)
    go false q =
        let hd = dec-head n (omega arith) in
        let o = hd.low (pos_of n (eqb-false n 0 q)) in
        let a : dec_from i (dec n ++ t) ≡ num_from 0 i (dec n ++ t) = rw hd.is (dec_nonzero i hd.first (hd.rest ++ t) o hd.high) in
        a ∙ num-dec n n i t (omega arith) k ∙ num-stops n (i + length (dec n)) t e

given : (s : List ℕ) (i n j stop : ℕ) → dec_from i (drop i s) ≡ Some (n, j) → j < length s → get_or s j 0 ≡ stop → field_at s i stop ≡ Some (n, suc j)
unfolding field_at stopped
given s i n j stop d l g = rw (d, lt-leb (length s) j l, eq-eqb (get_or s j 0) stop g)

-- a decimal with the byte stop after it
pub field-reads : (s t : List ℕ) (i n stop : ℕ) → Word n → is_digit stop ≡ false → drop i s ≡ dec n ++ (stop ∷ t) → field_at s i stop ≡ Some (n, suc (i + length (dec n)))
field-reads s t i n stop k e w =
    let p = past s (dec n) t i stop w in
    given s i n (i + length (dec n)) stop (ap (dec_from i) w ∙ dec-reads n i (stop ∷ t) k e) p.inside p.byte
