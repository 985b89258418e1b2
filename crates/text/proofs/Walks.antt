-- Steps of the readings: what one more byte does at a place of a text. Assumes nothing.
use Prim.Native.Nat.{ℕ, zero, suc, ◌+◌, ◌-◌, ◌*◌, ◌^◌, ◌≤◌, ◌<◌}
use mathlib.Core.Path.{◌≡◌, refl, sym, ap, ◌∙◌}
use mathlib.Core.Bool.{Bool, true, false, cond, ◌&&◌}
use mathlib.Core.List.{List, [], ◌∷◌, ◌++◌}
use Rattle.std.specs.Prelude.{Some, None}
use Rattle.std.specs.Char.{is_ascii_digit}
use Rattle.std.specs.List.{list_all}
use Rattle.std.proofs.Common.{take}
use Rattle.std.proofs.lemmas.Bool.Decides.{nat_tests}
use lib.ListN.{length, get_or, drop, drop_of_length-le}
use lib.Seq.{drop-cons}
use lib.Dec.{ltb, leb}
use native.Mathlib.Omega.{arith}
use native.Mathlib.Numerals.{add-one}
use borrow.Author.Tests.{lt-leb, le-leb, ltb-false, leb-true}
use Rattle.words.proofs.Bools.{never}
use Rattle.text.specs.Decimals.{is_digit, num_from}
use Rattle.text.specs.Hex.{is_hex, nibble_of, hex_ok, hex_from}
use Rattle.text.specs.Words.{is_prefix}
use Rattle.text.proofs.Spots.{word-reads, word_is}

-- ---- digits and numbers

-- std's test of a digit
pub ascii-digit : (b : ℕ) → is_ascii_digit b ≡ is_digit b
unfolding is_digit
ascii-digit b = grind (arith, nat_tests)

pub digit_low : (b : ℕ) → is_digit b ≡ true → 48 ≤ b
unfolding is_digit
digit_low b e = go (ltb b 48) refl e
  where
    go : (t : Bool) → ltb b 48 ≡ t → cond t false (leb b 57) ≡ true → 48 ≤ b
    go true q r = absurd (never r)
    go false q r = ltb-false b 48 q

pub digit-high : (b : ℕ) → is_digit b ≡ true → b ≤ 57
unfolding is_digit
digit-high b e = go (ltb b 48) refl e
  where
    go : (t : Bool) → ltb b 48 ≡ t → cond t false (leb b 57) ≡ true → b ≤ 57
    go true q r = absurd (never r)
    go false q r = leb-true b 57 r

pub num_stop : (s : List ℕ) (v i : ℕ) → i < length s → is_digit (get_or s i 0) ≡ false → num_from v i (drop i s) ≡ Some (v, i)
unfolding num_from
num_stop s v i h e = rw (drop-cons s i 0 h, e)

pub num_over : (s : List ℕ) (v i : ℕ) → i < length s → is_digit (get_or s i 0) ≡ true → 2 ^ 64 ≤ v * 10 + (get_or s i 0 - 48) → num_from v i (drop i s) ≡ None
unfolding num_from
num_over s v i h e k = rw (drop-cons s i 0 h, e, le-leb _ _ k)

pub num_more : (s : List ℕ) (v i : ℕ) → i < length s → is_digit (get_or s i 0) ≡ true → v * 10 + (get_or s i 0 - 48) < 2 ^ 64
    → num_from v i (drop i s) ≡ num_from (v * 10 + (get_or s i 0 - 48)) (i + 1) (drop (i + 1) s)
unfolding num_from
num_more s v i h e k = rw (drop-cons s i 0 h, e, lt-leb _ _ k, add-one)

pub num_end : (s : List ℕ) (v i : ℕ) → length s ≤ i → num_from v i (drop i s) ≡ Some (v, i)
unfolding num_from
num_end s v i h = rw (drop_of_length-le s h)

-- ---- words

-- std's test of a text's start
pub prefix_told : (w s : List ℕ) (r : Bool) → (r ≡ true → s ≡ w ++ drop (length w) s) × ((rest : List ℕ) → s ≡ w ++ rest → r ≡ true) → r ≡ is_prefix w s
prefix_told w s true h = sym (ap (is_prefix w) (h.0 refl) ∙ word-reads w (drop (length w) s))
prefix_told w s false h = go (is_prefix w s) refl
  where
    go : (t : Bool) → is_prefix w s ≡ t → false ≡ is_prefix w s
    go true e = absurd (never (h.1 (drop (length w) s) (word_is w s e)))
    go false e = sym e

-- ---- hexadecimal digits

pub nibble-lt : (b : ℕ) → nibble_of b < 16
unfolding nibble_of
nibble-lt b = go (ltb b 48) (leb b 57) (ltb b 65) (leb b 70) refl refl refl refl
  where
    go : (p q r t : Bool) → ltb b 48 ≡ p → leb b 57 ≡ q → ltb b 65 ≡ r → leb b 70 ≡ t → cond p 0 (cond q (b - 48) (cond r 0 (cond t (b - 55) 0))) < 16
    go true q r t a1 a2 a3 a4 = omega arith
    go false true r t a1 a2 a3 a4 = omega (arith, leb-true b 57 a2)
    go false false true t a1 a2 a3 a4 = omega arith
    go false false false true a1 a2 a3 a4 = omega (arith, leb-true b 70 a4)
    go false false false false a1 a2 a3 a4 = omega arith

pub hex_ok-short : (k : ℕ) (bs : List ℕ) → length bs < k → hex_ok k bs ≡ false
unfolding hex_ok
hex_ok-short zero bs h = absurd (omega arith)
hex_ok-short (suc k) [] h = refl
hex_ok-short (suc k) (b ∷ bs) h = go (is_hex b) (hex_ok-short k bs (omega arith))
  where
    go : (t : Bool) → hex_ok k bs ≡ false → t && hex_ok k bs ≡ false
    go true e = e
    go false e = refl

-- the first k bytes are there, and each of them is a digit
pub hex_ok-all : (k : ℕ) (bs : List ℕ) → k ≤ length bs → hex_ok k bs ≡ list_all is_hex (take k bs)
unfolding hex_ok
hex_ok-all zero bs h = refl
hex_ok-all (suc k) [] h = absurd (omega arith)
hex_ok-all (suc k) (b ∷ bs) h = ap (λ (t : Bool). is_hex b && t) (hex_ok-all k bs (omega arith))

pub hex_step : (s : List ℕ) (v i k : ℕ) → i < length s → hex_from v (suc k) (drop i s) ≡ hex_from (v * 16 + nibble_of (get_or s i 0)) k (drop (suc i) s)
unfolding hex_from
hex_step s v i k h = rw (drop-cons s i 0 h)
