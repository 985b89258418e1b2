-- The tables of all layers in one lent slice: "an index per layer: a lent table of twice the heap size, rounded up to a power of two".
use Rattle.std.specs.Prelude.{ℕ, zero, suc, ◌*◌, Bool, cond, not, List, [], ◌∷◌, ◌++◌, length, eqb}
use Rattle.words.specs.Parts.{part, put_part}
use Rattle.header.specs.declared.Shape.{Shape}
use Rattle.heap_index.specs.Index.{index_length}
use Rattle.layout.specs.Slices.{Lent}
use Rattle.layout.specs.Outcomes.{lent_tests}

-- the places of one table, and of all
abbrev pub table_length : Shape → ℕ
table_length sh = index_length sh.heap_size

abbrev pub tables_in : Shape → ℕ
tables_in sh = table_length sh * sh.layers

-- layer l's table, and another put in its place
abbrev pub table_at : Shape → List ℕ → ℕ → List ℕ
table_at sh xs l = part (table_length sh * l) (table_length sh) xs

abbrev pub put_table : Shape → List ℕ → ℕ → List ℕ → List ℕ
put_table sh xs l ys = put_part (table_length sh * l) (table_length sh) xs ys

-- the tables of k layers from l on, each replaced by f's
unfoldable pub over_tables : Shape → (ℕ → List ℕ) → ℕ → ℕ → List ℕ → List ℕ
over_tables sh f zero l xs = xs
over_tables sh f (suc k) l xs = over_tables sh f k (suc l) (put_table sh xs l (f l))

-- "another length is 9 with the lengths", of n words
abbrev pub tables_test : Shape → ℕ → Bool × ℕ
tables_test sh n = (not (eqb n (tables_in sh)), 9)

-- header, lengths and the index's length
abbrev pub indexed_tests : Lent → List ℕ → List (Bool × ℕ)
indexed_tests r xs = lent_tests r ++ (tables_test r.head.shape (length xs) ∷ [])

-- what a call with the number n leaves of its index: as it was on a refusal, else what it makes of it
unfoldable pub index_left : ℕ → List ℕ → List ℕ → List ℕ
index_left n made index = cond (eqb n 0) made index
