-- Signed decimals: "weight signed", "−0" is unreadable; a minus sign stands before negative numbers.
use Rattle.std.specs.Prelude.{List, ◌∷◌, cond, ℕ, suc, ◌+◌, ◌-◌, ◌^◌, ◌<◌, eqb, ltb, leb, ℤ, pos, negsuc, length, get_or, Option, None, Some}
use Rattle.text.specs.Decimals.{Num, dec, field_at}

-- negsuc n is -1 - n, so no number is written `-0`
unfoldable pub signed_dec : ℤ → List ℕ
signed_dec (pos n) = dec n
signed_dec (negsuc n) = 45 ∷ dec (suc n)

-- from -2^63 to 2^63 - 1
abbrev pub SignedWord : ℤ → Type 0
SignedWord (pos n) = n < 2 ^ 63
SignedWord (negsuc n) = n < 2 ^ 63

-- a signed number and the place past it, or nothing
abbrev pub Int : Type 0
Int = Option (ℤ × ℕ)

-- a number after `-`: not 0, at most 2^63
unfoldable pub negated : Num → Int
negated (Some p) = cond (eqb p.0 0) None (cond (ltb (2 ^ 63) p.0) None (Some (negsuc (p.0 - 1), p.1)))
negated None = None

unfoldable pub unsigned : Num → Int
unsigned (Some p) = cond (ltb (2 ^ 63 - 1) p.0) None (Some (pos p.0, p.1))
unsigned None = None

-- a signed decimal that the byte stop ends
unfoldable pub int_at : List ℕ → ℕ → ℕ → Int
int_at s i stop =
    cond (leb (length s) i) None
    (cond (eqb (get_or s i 0) 45) (negated (field_at s (i + 1) stop))
    (unsigned (field_at s i stop)))
