-- "Write a state as bracket forms, one a line": the only grammar, from which both the text and its reading come.
use Rattle.std.specs.Prelude.{◌≡◌, List, [], ◌∷◌, ◌++◌, Bool, true, false, cond, not, ◌&&◌, ℕ, zero, suc, ◌≤◌, eqb, leb, ℤ, pos, length, take, drop, replicate}
use Rattle.std.specs.Int.Signed.{le_z}
use Rattle.words.specs.Num.{top, in_range}
use Rattle.words.specs.Lists.{All}
use Rattle.heap_moves.specs.Cands.{Cand}
use Rattle.text.specs.Words.{bytes_of, is_prefix}
use Rattle.text.specs.Decimals.{dec, Word}
use Rattle.state_forms.specs.Formats.{Got, got, bad, then_read, Format, word_r, num_r, lit, num, int, this, pair, after, before, such, via}
use Rattle.state_forms.specs.Sparse.{Listing, sparse_text, sparse_r}

-- 32 is a space, 41 the closing bracket, 10 the newline: "Each line ends with one newline."
abbrev pub newline : Format (Unit {0})
newline = lit (10 ∷ [])

abbrev pub line_end : List ℕ
line_end = 41 ∷ 10 ∷ []

-- ---- `(row I R (C V) (C V))`: "only nonzero counters by rising column"

unfoldable pub is_zero : ℤ → Bool
is_zero v = le_z v (pos 0) && le_z (pos 0) v

unfoldable pub all_zero : List ℤ → Bool
all_zero [] = true
all_zero (x ∷ xs) = is_zero x && all_zero xs

-- ` (C V)`: the column, and a counter in range that is not zero
abbrev pub cell_format : Format (ℕ × ℤ)
cell_format = such (λ p. not (is_zero p.1) && in_range p.1) (after (lit (bytes_of " (")) (pair (num 32) (int 41)))

abbrev pub cell_listing : Listing ℤ
cell_listing = record { form = cell_format; zero-value = pos 0; none = is_zero; begins = is_prefix (32 ∷ []) }

-- the counters of one row
pub record RowIn (cols : ℕ) (xs : List ℤ) : Type 0 where
  pub long : length xs ≡ cols
  pub range : All (λ z. in_range z ≡ true) xs

-- a row's number and its counters, not all zero: the space that ends the number begins the first pair
abbrev pub row_rest : ℕ → Format (ℕ × List ℤ)
row_rest cols =
    record {
      In = λ p. Word p.0 × (RowIn cols p.1 × (all_zero p.1 ≡ false));
      write = λ p. dec p.0 ++ (sparse_text cell_listing 0 p.1 ++ line_end);
      read = λ s.
          then_read (num_r 32 s) (λ r t.
          then_read (sparse_r cell_listing (suc cols) 0 cols (32 ∷ t)) (λ xs u.
          then_read (word_r line_end u) (λ _ v.
          got (r, xs) v)));
    }

abbrev pub row_format : ℕ → ℕ → Format (ℕ × List ℤ)
row_format l cols = after (lit (bytes_of "(row ")) (after (this l 32) (row_rest cols))

-- "rows of zeros omitted"
abbrev pub row_listing : ℕ → ℕ → Listing (List ℤ)
row_listing l cols = record { form = row_format l cols; zero-value = replicate cols (pos 0); none = all_zero; begins = is_prefix (bytes_of "(row ") }

-- the n rows of layer l
abbrev pub rows_format : ℕ → ℕ → ℕ → Format (List (List ℤ))
rows_format l n cols =
    record {
      In = λ rs. (length rs ≡ n) × All (RowIn cols) rs;
      write = λ rs. sparse_text (row_listing l cols) 0 rs;
      read = λ s. sparse_r (row_listing l cols) (suc n) 0 n s;
    }

-- n rows cut out of a layer's counters, and joined again
unfoldable pub rows_of : ℕ → ℕ → List ℤ → List (List ℤ)
rows_of cols zero xs = []
rows_of cols (suc n) xs = take cols xs ∷ rows_of cols n (drop cols xs)

unfoldable pub join_rows : List (List ℤ) → List ℤ
join_rows [] = []
join_rows (r ∷ rs) = r ++ join_rows rs

-- ---- `(key I KEY BOTTOM HI LO COUNT)` in heap order

abbrev pub Fields : Type 0
Fields = ℕ × (ℕ × (ℕ × (ℕ × ℤ)))

abbrev pub cand_from : Fields → Cand
cand_from p = record { item = record { key = p.0; bottom = p.1.0; high = p.1.1.0; low = p.1.1.1.0 }; count = p.1.1.1.1 }

abbrev pub fields_of : Cand → Fields
fields_of c = (c.item.key, (c.item.bottom, (c.item.high, (c.item.low, c.count))))

abbrev pub key_format : ℕ → Format Cand
key_format l =
    via cand_from fields_of
    (after (lit (bytes_of "(key ")) (after (this l 32)
    (pair (num 32) (pair (num 32) (pair (num 32) (pair (num 32) (before (int 41) newline)))))))

abbrev pub key_begins : List ℕ → Bool
key_begins s = is_prefix (bytes_of "(key ") s

unfoldable pub keys_text : ℕ → List Cand → List ℕ
keys_text l [] = []
keys_text l (c ∷ cs) = (key_format l).write c ++ keys_text l cs

-- at most n of them
unfoldable pub keys_r : ℕ → ℕ → List ℕ → Got (List Cand)
keys_r l zero s = cond (key_begins s) bad (got [] s)
keys_r l (suc n) s =
    cond (key_begins s)
    (then_read ((key_format l).read s) (λ c t. then_read (keys_r l n t) (λ cs u. got (c ∷ cs) u)))
    (got [] s)

abbrev pub keys_format : ℕ → ℕ → Format (List Cand)
keys_format l size = record { In = λ cs. (length cs ≤ size) × All (key_format l).In cs; write = keys_text l; read = keys_r l size }

-- ---- `(flag I F)`

abbrev pub flag_number : Bool → ℕ
flag_number f = cond f 1 0

abbrev pub flag_format : ℕ → Format Bool
flag_format l = via (λ n. eqb n 1) flag_number (after (lit (bytes_of "(flag ")) (after (this l 32) (before (such (λ n. leb n 1) (num 41)) newline)))

-- ---- a layer: what of it is written. The norms are worked out, and what is past the keys is zero.

pub record Page : Type 0 where
  pub flag : Bool
  pub rows : List (List ℤ)
  pub keys : List Cand

abbrev pub page_from : Bool × (List (List ℤ) × List Cand) → Page
page_from p = record { flag = p.0; rows = p.1.0; keys = p.1.1 }

abbrev pub parts_of : Page → Bool × (List (List ℤ) × List Cand)
parts_of p = (p.flag, (p.rows, p.keys))

-- what every layer of a state has alike, and the state check's test of a layer's candidates
pub record Frame : Type 0 where
  pub size : ℕ
  pub rows : ℕ
  pub cols : ℕ
  pub test : List Cand → Bool

abbrev pub page_format : Frame → ℕ → Format Page
page_format k l =
    via page_from parts_of
    (such (λ p. k.test p.1.1)
    (pair (flag_format l) (pair (rows_format l k.rows k.cols) (keys_format l k.size))))

-- the text of a layer with these counters and candidates
unfoldable pub page_text : ℕ → Bool → ℕ → ℕ → List ℤ → List Cand → List ℕ
page_text l f rows cols xs cs = (flag_format l).write f ++ (sparse_text (row_listing l cols) 0 (rows_of cols rows xs) ++ keys_text l cs)

-- n layers from layer l on
unfoldable pub pages_text : Frame → ℕ → List Page → List ℕ
pages_text k l [] = []
pages_text k l (p ∷ ps) = (page_format k l).write p ++ pages_text k (suc l) ps

unfoldable pub pages_r : Frame → ℕ → ℕ → List ℕ → Got (List Page)
pages_r k l zero s = got [] s
pages_r k l (suc n) s = then_read ((page_format k l).read s) (λ p t. then_read (pages_r k (suc l) n t) (λ ps u. got (p ∷ ps) u))

-- each layer with its number
abbrev pub PagesIn : Frame → ℕ → List Page → Type 0
PagesIn k l [] = Unit {0}
PagesIn k l (p ∷ ps) = (page_format k l).In p × PagesIn k (suc l) ps

abbrev pub pages_format : Frame → ℕ → ℕ → Format (List Page)
pages_format k l n = record { In = λ ps. (length ps ≡ n) × PagesIn k l ps; write = pages_text k l; read = pages_r k l n }

-- ---- the first lines: `(univmon HEAP ROWS COLS LAYERS)`, `(weight W)`, `(updates U)`, `(mode M)` with M 0, 1 or 2

abbrev pub first_format : Format (ℕ × (ℕ × (ℕ × ℕ)))
first_format = after (lit (bytes_of "(univmon ")) (pair (num 32) (pair (num 32) (pair (num 32) (before (num 41) newline))))

abbrev pub num_line : List ℕ → ℕ → Format ℕ
num_line w most = after (lit w) (before (such (λ n. leb n most) (num 41)) newline)

abbrev pub head_format : Format (ℕ × (ℕ × ℕ))
head_format = pair (num_line (bytes_of "(weight ") top) (pair (num_line (bytes_of "(updates ") top) (num_line (bytes_of "(mode ") 2))

-- all lines after the first
abbrev pub others_format : Frame → ℕ → Format ((ℕ × (ℕ × ℕ)) × List Page)
others_format k layers = pair head_format (pages_format k 0 layers)
