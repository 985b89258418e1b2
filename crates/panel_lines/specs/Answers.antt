-- The answers' texts.
use Rattle.std.specs.Prelude.{List, [], ◌∷◌, ◌++◌, Bool, ℕ, ◌+◌, ◌*◌}
use Rattle.text.specs.Words.{bytes_of, flag_digit}
use Rattle.text.specs.Decimals.{dec}
use Rattle.text.specs.Hex.{hex_digits}

abbrev pub ok_text : List ℕ
ok_text = bytes_of "(ok)"

-- "refusal N is `(refused N)`"
unfoldable pub refused_text : ℕ → List ℕ
refused_text n = bytes_of "(refused " ++ (dec n ++ bytes_of ")")

-- "each layer's flag from layer 0, 1 for complete"
unfoldable pub flags_text : List Bool → List ℕ
flags_text [] = []
flags_text (f ∷ fs) = 32 ∷ (flag_digit f ∷ flags_text fs)

-- how many bytes the answer to `show` has with n flags and a number of d digits
abbrev pub show_bytes : ℕ → ℕ → ℕ
show_bytes n d = 93 + 2 * n + d

-- "The show line gains (updates U), decimal, as its last form.": from the bracket behind the flags to the end
unfoldable pub updates_text : ℕ → List ℕ
updates_text n = bytes_of ") (updates " ++ (dec n ++ bytes_of "))")

-- "Show gives L1, L2 and cardinality as f64 bits, then each layer's flag"
unfoldable pub show_text : ℕ → ℕ → ℕ → List Bool → ℕ → List ℕ
show_text l1 l2 keys flags updates =
    bytes_of "(show (l1 " ++ (hex_digits 16 l1
    ++ (bytes_of ") (l2 " ++ (hex_digits 16 l2
    ++ (bytes_of ") (keys " ++ (hex_digits 16 keys
    ++ (bytes_of ") (flags" ++ (flags_text flags
    ++ updates_text updates)))))))
