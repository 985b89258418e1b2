-- Hexadecimal words, both ways: what is written is read back, and what is read was written. Assumes nothing.
use Prim.Native.Nat.{ℕ, zero, suc, ◌+◌, ◌-◌, ◌*◌, ◌/◌, ◌%◌, ◌^◌, ◌≤◌, ◌<◌}
use mathlib.Core.Path.{◌≡◌, refl, ap, ◌∙◌}
use mathlib.Core.Bool.{Bool, true, false, cond}
use mathlib.Core.List.{List, [], ◌∷◌, ◌++◌}
use lib.ListN.{length, drop, length-drop}
use lib.Pow.{mod-pow-add, pow-add, shr-shr}
use lib.Seq.{drop-drop}
use lib.Dec.{ltb, leb}
use native.Mathlib.Omega.{arith}
use borrow.Author.Tests.{lt-ltb, le-ltb, le-leb, lt-leb, ltb-true, ltb-false, leb-true}
use Rattle.words.proofs.Bools.{never, and_left, and_right}
use Rattle.text.specs.Decimals.{Word}
use Rattle.text.specs.Hex.{hex_glyph, hex_digits, is_hex, nibble_of, hex_ok, hex_ok_at, hex_from, hex_at}
use Rattle.text.proofs.Puts.{hex_length}
use Rattle.text.proofs.Spots.{over}
use Rattle.text.proofs.Walks.{nibble-lt}

-- ---- one digit

glyph_hex : (d : ℕ) → d < 16 → (is_hex (hex_glyph d) ≡ true) × (nibble_of (hex_glyph d) ≡ d)
unfolding is_hex nibble_of hex_glyph
glyph_hex d h = go (ltb d 10) refl
  where
    go : (t : Bool) → ltb d 10 ≡ t → (cond (ltb (cond t (48 + d) (55 + d)) 48) false (cond (leb (cond t (48 + d) (55 + d)) 57) true (cond (ltb (cond t (48 + d) (55 + d)) 65) false (leb (cond t (48 + d) (55 + d)) 70))) ≡ true)
        × (cond (ltb (cond t (48 + d) (55 + d)) 48) 0 (cond (leb (cond t (48 + d) (55 + d)) 57) (cond t (48 + d) (55 + d) - 48) (cond (ltb (cond t (48 + d) (55 + d)) 65) 0 (cond (leb (cond t (48 + d) (55 + d)) 70) (cond t (48 + d) (55 + d) - 55) 0))) ≡ d)
    go true e =
        let l = ltb-true d 10 e in
        let a = le-ltb (48 + d) 48 (omega arith) in
        let b = le-leb (48 + d) 57 (omega arith) in
        (rw (a, b), rw (a, b) (omega arith))
    go false e =
        let l = ltb-false d 10 e in
        let a = le-ltb (55 + d) 48 (omega arith) in
        let b = lt-leb (55 + d) 57 (omega arith) in
        let c = le-ltb (55 + d) 65 (omega arith) in
        let f = le-leb (55 + d) 70 (omega arith) in
        (rw (a, b, c, f), rw (a, b, c, f) (omega arith))

-- a byte that is a digit is the glyph of its value
hex_glyph_of : (b : ℕ) → is_hex b ≡ true → hex_glyph (nibble_of b) ≡ b
unfolding is_hex nibble_of hex_glyph
hex_glyph_of b e = go (ltb b 48) (leb b 57) (ltb b 65) (leb b 70) refl refl refl refl e
  where
    go : (p q r t : Bool) → ltb b 48 ≡ p → leb b 57 ≡ q → ltb b 65 ≡ r → leb b 70 ≡ t → cond p false (cond q true (cond r false t)) ≡ true
        → cond (ltb (cond p 0 (cond q (b - 48) (cond r 0 (cond t (b - 55) 0)))) 10) (48 + cond p 0 (cond q (b - 48) (cond r 0 (cond t (b - 55) 0)))) (55 + cond p 0 (cond q (b - 48) (cond r 0 (cond t (b - 55) 0)))) ≡ b
    go true q r t h i j k o = absurd (never o)
    go false true r t h i j k o =
        let l : b - 48 < 10 = omega (arith, leb-true b 57 i) in
        rw (lt-ltb (b - 48) 10 l) (omega (arith, ltb-false b 48 h))
    go false false true t h i j k o = absurd (never o)
    go false false false true h i j k o =
        let l : 10 ≤ b - 55 = omega (arith, ltb-false b 65 j) in
        rw (le-ltb (b - 55) 10 l) (omega (arith, ltb-false b 65 j))
    go false false false false h i j k o = absurd (never o)

-- ---- written, then read

hex_ok_written : (k n : ℕ) (t : List ℕ) → hex_ok k (hex_digits k n ++ t) ≡ true
unfolding hex_ok hex_digits
hex_ok_written zero n t = refl
hex_ok_written (suc k) n t = rw (glyph_hex (n / 2 ^ (4 * k) % 16) (omega arith)).0 (hex_ok_written k n t)

hex_value_written : (k n v : ℕ) (t : List ℕ) → hex_from v k (hex_digits k n ++ t) ≡ v * 2 ^ (4 * k) + n % 2 ^ (4 * k)
unfolding hex_from hex_digits
hex_value_written zero n v t = omega arith
hex_value_written (suc k) n v t =
    let d = n / 2 ^ (4 * k) % 16 in
    let g = (glyph_hex d (omega arith)).1 in
    let e : 4 * suc k ≡ 4 + 4 * k = omega arith in
    let m : n % 2 ^ (4 + 4 * k) ≡ d * 2 ^ (4 * k) + n % 2 ^ (4 * k) = mod-pow-add n 4 (4 * k) in
    let p : 2 ^ (4 + 4 * k) ≡ 16 * 2 ^ (4 * k) = pow-add 2 4 (4 * k) in
    let x : (v * 16 + d) * 2 ^ (4 * k) ≡ v * (16 * 2 ^ (4 * k)) + d * 2 ^ (4 * k) = omega arith in
    rw (g, e) (hex_value_written k n (v * 16 + d) t ∙ omega (arith, x, m, ap (λ (z : ℕ). v * z) p))

pub hex_ok-reads : (s t : List ℕ) (i n : ℕ) → drop i s ≡ hex_digits 16 n ++ t → hex_ok_at s i ≡ true
hex_ok-reads s t i n e = rw e (hex_ok_written 16 n t)

pub hex_reads : (s t : List ℕ) (i n : ℕ) → Word n → drop i s ≡ hex_digits 16 n ++ t → hex_at s i ≡ n
hex_reads s t i n h e = rw e (hex_value_written 16 n 0 t ∙ omega arith)

pub hex_past : (s t : List ℕ) (i n : ℕ) → drop i s ≡ hex_digits 16 n ++ t → drop (i + 16) s ≡ t
hex_past s t i n e = over s (hex_digits 16 n) t i 16 (hex_length 16 n) e

-- ---- read, hence written

-- the digits that come next do not change the value before them
hex_high : (k v : ℕ) (bs : List ℕ) → hex_ok k bs ≡ true → hex_from v k bs / 2 ^ (4 * k) ≡ v
unfolding hex_ok hex_from
hex_high zero v bs e = omega arith
hex_high (suc k) v [] e = absurd (never e)
hex_high (suc k) v (b ∷ bs) e =
    let r = hex_high k (v * 16 + nibble_of b) bs (and_right (is_hex b) (hex_ok k bs) e) in
    let m : 4 * suc k ≡ 4 * k + 4 = omega arith in
    let d : (v * 16 + nibble_of b) / 2 ^ 4 ≡ v = omega (arith, nibble-lt b) in
    rw (m, ← shr-shr (hex_from (v * 16 + nibble_of b) k bs) (4 * k) 4) (ap (λ (z : ℕ). z / 2 ^ 4) r ∙ d)

hex_is : (k v : ℕ) (bs : List ℕ) → hex_ok k bs ≡ true → bs ≡ hex_digits k (hex_from v k bs) ++ drop k bs
unfolding hex_ok hex_from hex_digits
hex_is zero v bs e = refl
hex_is (suc k) v [] e = absurd (never e)
hex_is (suc k) v (b ∷ bs) e =
    let y = and_right (is_hex b) (hex_ok k bs) e in
    let r = hex_is k (v * 16 + nibble_of b) bs y in
    let d : (v * 16 + nibble_of b) % 16 ≡ nibble_of b = omega (arith, nibble-lt b) in
    let g = hex_glyph_of b (and_left (is_hex b) (hex_ok k bs) e) in
    rw (hex_high k (v * 16 + nibble_of b) bs y, d, g) (ap (λ (z : List ℕ). b ∷ z) r)

pub hex_sound : (s : List ℕ) (i : ℕ) → hex_ok_at s i ≡ true → drop i s ≡ hex_digits 16 (hex_at s i) ++ drop (i + 16) s
hex_sound s i e = hex_is 16 0 (drop i s) e ∙ rw (drop-drop 16 i s)

pub hex_word : (s : List ℕ) (i : ℕ) → hex_ok_at s i ≡ true → Word (hex_at s i)
hex_word s i e = let d : hex_at s i / 2 ^ 64 ≡ 0 = hex_high 16 0 (drop i s) e in omega arith

-- a text that begins with k digits has at least k bytes
hex_ok-long : (k : ℕ) (bs : List ℕ) → hex_ok k bs ≡ true → k ≤ length bs
unfolding hex_ok
hex_ok-long zero bs e = omega arith
hex_ok-long (suc k) [] e = absurd (never e)
hex_ok-long (suc k) (b ∷ bs) e = omega (arith, hex_ok-long k bs (and_right (is_hex b) (hex_ok k bs) e))

pub hex_room : (s : List ℕ) (i : ℕ) → hex_ok_at s i ≡ true → i + 16 ≤ length s
hex_room s i e = omega (arith, simp length-drop at (hex_ok-long 16 (drop i s) e))
