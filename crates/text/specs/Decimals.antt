-- Decimals: "a number past 64 bits (weight signed, others unsigned) or a decimal with leading zeros" is unreadable.
use Rattle.std.specs.Prelude.{List, [], ◌∷◌, ◌++◌, Bool, false, cond, not, ℕ, zero, suc, ◌+◌, ◌-◌, ◌*◌, ◌/◌, ◌%◌, ◌^◌, ◌<◌, eqb, ltb, leb, length, get_or, drop, Option, None, Some}

-- a number below 10 ^ f, written without leading zeros
unfoldable pub dec_in : ℕ → ℕ → List ℕ
dec_in zero n = []
dec_in (suc f) n = cond (ltb n 10) ((48 + n) ∷ []) (dec_in f (n / 10) ++ ((48 + n % 10) ∷ []))

-- a number of 64 bits: 20 digits are enough
unfoldable pub dec : ℕ → List ℕ
dec n = dec_in 20 n

-- "past 64 bits": such a number is no word
abbrev pub Word : ℕ → Type 0
Word n = n < 2 ^ 64

unfoldable pub is_digit : ℕ → Bool
is_digit b = cond (ltb b 48) false (leb b 57)

-- a number and the place past it, or nothing where none can be read
abbrev pub Num : Type 0
Num = Option (ℕ × ℕ)

-- the digits at the start of a list, after digits whose value is v; the list starts at place i
unfoldable pub num_from : ℕ → ℕ → List ℕ → Num
num_from v i [] = Some (v, i)
num_from v i (b ∷ bs) =
    cond (not (is_digit b)) (Some (v, i))
    (cond (leb (2 ^ 64) (v * 10 + (b - 48))) None
    (num_from (v * 10 + (b - 48)) (suc i) bs))

-- a decimal: 0 alone, or digits the first of which is not 0
unfoldable pub dec_from : ℕ → List ℕ → Num
dec_from i [] = None
dec_from i (b ∷ bs) =
    cond (eqb b 48) (Some (0, suc i))
    (cond (not (is_digit b)) None
    (num_from 0 i (b ∷ bs)))

-- a number that the byte stop ends
unfoldable pub stopped : List ℕ → ℕ → Num → Num
stopped s stop (Some p) = cond (leb (length s) p.1) None (cond (eqb (get_or s p.1 0) stop) (Some (p.0, suc p.1)) None)
stopped s stop None = None

unfoldable pub field_at : List ℕ → ℕ → ℕ → Num
field_at s i stop = stopped s stop (dec_from i (drop i s))
