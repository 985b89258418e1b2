-- Hexadecimal words: "in 16 hexadecimal digits"; one "with small hexadecimal letters" is unreadable.
use Rattle.std.specs.Prelude.{List, [], ◌∷◌, Bool, true, false, cond, ◌&&◌, ℕ, zero, suc, ◌+◌, ◌-◌, ◌*◌, ◌/◌, ◌%◌, ◌^◌, ltb, leb, drop}

-- `0` to `9`, then `A` to `F`
unfoldable pub hex_glyph : ℕ → ℕ
hex_glyph d = cond (ltb d 10) (48 + d) (55 + d)

-- the last k digits of a number
unfoldable pub hex_digits : ℕ → ℕ → List ℕ
hex_digits zero n = []
hex_digits (suc k) n = hex_glyph (n / 2 ^ (4 * k) % 16) ∷ hex_digits k n

unfoldable pub is_hex : ℕ → Bool
is_hex b = cond (ltb b 48) false (cond (leb b 57) true (cond (ltb b 65) false (leb b 70)))

-- the value of a digit; 0 for any other byte
unfoldable pub nibble_of : ℕ → ℕ
nibble_of b = cond (ltb b 48) 0 (cond (leb b 57) (b - 48) (cond (ltb b 65) 0 (cond (leb b 70) (b - 55) 0)))

-- k digits stand at the start
unfoldable pub hex_ok : ℕ → List ℕ → Bool
hex_ok zero bs = true
hex_ok (suc k) [] = false
hex_ok (suc k) (b ∷ bs) = is_hex b && hex_ok k bs

abbrev pub hex_ok_at : List ℕ → ℕ → Bool
hex_ok_at s i = hex_ok 16 (drop i s)

-- the value of k digits, after digits whose value is v
unfoldable pub hex_from : ℕ → ℕ → List ℕ → ℕ
hex_from v zero bs = v
hex_from v (suc k) [] = v
hex_from v (suc k) (b ∷ bs) = hex_from (v * 16 + nibble_of b) k bs

abbrev pub hex_at : List ℕ → ℕ → ℕ
hex_at s i = hex_from 0 16 (drop i s)
