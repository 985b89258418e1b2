-- "After a text is read the index is built in heap order, a key's second entry left out."
use Rattle.std.specs.Prelude.{ℕ, ◌*◌, Bool, not, List, [], ◌∷◌, length, get_or, replicate, pos, eqb}
use Rattle.words.specs.Parts.{part}
use Rattle.heap_moves.specs.Flat.{cands_of}
use Rattle.heap_index.specs.Index.{build}
use Rattle.header.specs.declared.Header.{Header}
use Rattle.header.specs.Header.{header_ok}
use Rattle.layout.specs.State.{cand_off}
use Rattle.layout.specs.Slices.{cands_in}
use Rattle.layout_index.specs.Tables.{table_length, tables_test, over_tables}

-- 9 for the header, the entries' length and the length n of the index
abbrev pub build_tests : Header → List ℕ → ℕ → List (Bool × ℕ)
build_tests h es n = (not (header_ok h), 9) ∷ (not (eqb (length es) (4 * cands_in h.shape)), 9) ∷ tables_test h.shape n ∷ []

-- the table of layer l, from its entries alone: counts are not read, and stand as zeros
unfoldable pub built_table : Header → List ℕ → ℕ → List ℕ
built_table h es l =
    build (table_length h.shape) (get_or h.lens l 0) (cands_of (part (4 * cand_off h.shape l) (4 * h.shape.heap_size) es) (replicate h.shape.heap_size (pos 0)))

-- the tables of all layers
unfoldable pub built_index : Header → List ℕ → List ℕ → List ℕ
built_index h es xs = over_tables h.shape (built_table h es) h.shape.layers 0 xs
