-- `UnivMon` has four dimensions and `UnivMonTwoTier` seven: a shape whose layers are alike is one of seven, in which no layer is of the first tier and both tiers
-- have the same rows and columns. So what is said of shapes is said of both.
use Rattle.std.specs.Prelude.{ℕ, ◌+◌, ◌*◌, ◌≡◌, Bool, cond, ◌||◌, eqb, ltb}
use Rattle.matrix_storage.specs.Bits.{max_rows, max_cols, hash_bits, mask_bits}
use Rattle.header.specs.Shape.{max_layers, max_heap, two_tier, shape_refusal, same_shape}
use Rattle.header.specs.declared.Shape.{Shape}

-- heap size, rows, columns, layers
abbrev pub one_tier : ℕ → ℕ → ℕ → ℕ → Shape
one_tier heap rows cols layers = two_tier heap 0 rows cols rows cols layers

-- the shape of a shape's heap size, second tier and layers; and whether it is the shape itself: then its layers are alike
abbrev pub its_one_tier : Shape → Shape
its_one_tier sh = one_tier sh.heap_size sh.mouse_rows sh.mouse_cols sh.layers

abbrev pub OneTiered : Shape → Type 0
OneTiered sh = its_one_tier sh ≡ sh

abbrev pub is_one_tier : Shape → Bool
is_one_tier sh = same_shape (its_one_tier sh) sh

-- what is refused of four dimensions, in 01's words: 1 "a dimension is 0", 2 "layers above 19", 3 "hash bits above 128", 4 "rows, cols or heap size above the
-- domain"; the proof stands in proofs/OneTier.antt, `one_tier-refusal`
abbrev pub OneTierRefusal : Type 0
OneTierRefusal =
    (heap rows cols layers : ℕ)
    → shape_refusal (one_tier heap rows cols layers)
    ≡ cond (eqb heap 0 || (eqb rows 0 || (eqb cols 0 || eqb layers 0))) 1
    (cond (ltb max_layers layers) 2
    (cond (ltb hash_bits ((mask_bits cols + 1) * rows)) 3
    (cond (ltb max_rows rows || (ltb max_cols cols || ltb max_heap heap)) 4
    0)))
