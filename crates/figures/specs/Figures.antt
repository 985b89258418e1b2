-- Document 01's figures marked *, as rows of one table: what the definitions give, and what 01 says.
use Rattle.std.specs.Prelude.{ℕ, ◌^◌, Bool, true, false, ◌&&◌, List, [], ◌∷◌, map, replicate, ℤ, pos, negsuc, Float}
use Rattle.std.specs.Int.Signed.{le_z}
use Rattle.std.specs.Float.{binary64}
use Rattle.std.specs.Float.Ieee.{to_bits}
use Rattle.words.specs.Num.{capped}
use Rattle.float64.specs.Norm.{norm_read}
use Rattle.matrix_storage.specs.Bits.{column, signed, hash_of}
use Rattle.countsketch_l2_norm.specs.Norms.{norms_of}
use Rattle.countsketch_l2_norm.specs.Estimate.{estimate_f}
use Rattle.countsketch_l2_norm.specs.Merge.{row_norm}
use Rattle.header.specs.declared.Shape.{Shape}
use Rattle.header.specs.OneTier.{one_tier}
use Rattle.refusal.specs.Refusals.{Answer as Judged}
use Rattle.header.specs.Shape.{bottom_layer}
use Rattle.layout.specs.Slices.{Lent}
use Rattle.layout.specs.Outcomes.{left_by}
use Rattle.univmon.specs.declared.Kind.TheVariants as kind
use Rattle.univmon.specs.Calls.{new_call, update_call}
use Rattle.estimates.specs.Answers.{Answer}
use Rattle.estimates.specs.Calls.{l2_call, cardinality_call}

-- ---- a row, and whether it holds

pub record Row : Type 0 where
  pub given : List ℤ
  pub said : List ℤ

abbrev pub same_z : ℤ → ℤ → Bool
same_z a b = le_z a b && le_z b a

unfoldable pub same : List ℤ → List ℤ → Bool
same [] [] = true
same [] (y ∷ ys) = false
same (x ∷ xs) [] = false
same (x ∷ xs) (y ∷ ys) = same_z x y && same xs ys

unfoldable pub all_hold : List Row → Bool
all_hold [] = true
all_hold (r ∷ rs) = same r.given r.said && all_hold rs

-- ---- what the rows are made of: floats as their bits

abbrev pub bits_z : Float → ℤ
bits_z x = pos (to_bits binary64 x)

-- 0 and the layer, or the refusal's number and no layer
abbrev pub layer_by : Judged ℕ → List ℤ
layer_by (Judged.yes l) = pos 0 ∷ pos l ∷ []
layer_by (Judged.no n) = pos n ∷ []

-- a refusal's number, 0 for none, and the float's bits
abbrev pub answer_words : Answer → List ℤ
answer_words a = pos a.refusal ∷ bits_z a.value ∷ []

-- "heap size 2, 2 layers"; "4 cols, 2 rows"
abbrev pub shape : Shape
shape = one_tier 2 2 4 2

unfoldable pub relay : Lent
relay = (new_call shape (replicate 16 (pos 0)) (replicate 8 0) (replicate 16 0) (replicate 4 (pos 0))).lends

-- "high 0x8000000000000000, low 6"
abbrev pub high : ℕ
high = 0x8000000000000000

abbrev pub low : ℕ
low = 6

-- records: key, bottom hash, and a hash for each of two layers
abbrev pub record_a : List ℕ
record_a = 7 ∷ 0 ∷ high ∷ low ∷ 0 ∷ 0 ∷ []

abbrev pub record_b : List ℕ
record_b = 8 ∷ 2 ∷ 3 ∷ 9 ∷ high ∷ 5 ∷ []

abbrev pub updated_by : Lent → List ℕ → ℤ → Lent
updated_by r words w = (left_by r (update_call kind.Standard r words w)).lends

unfoldable pub after_a : Lent
after_a = updated_by relay record_a (pos 5)

unfoldable pub after_b : Lent
after_b = updated_by after_a record_b (pos 4)

-- ---- the table

unfoldable pub figures : List Row
figures =
    -- "Bottom, 1 layer, hash 6: 0. 3 layers, hash 0: 0; hash 2: 1; hash 6: 2."
    record { given = layer_by (bottom_layer 6 1); said = pos 0 ∷ pos 0 ∷ [] }
    ∷ record { given = layer_by (bottom_layer 0 3); said = pos 0 ∷ pos 0 ∷ [] }
    ∷ record { given = layer_by (bottom_layer 2 3); said = pos 0 ∷ pos 1 ∷ [] }
    ∷ record { given = layer_by (bottom_layer 6 3); said = pos 0 ∷ pos 2 ∷ [] }
    -- "4 cols, 2 rows, high 0x8000000000000000, low 6: columns 2 and 1, signs + and −."
    ∷ record { given = pos (column 4 (hash_of high low) 0) ∷ pos (column 4 (hash_of high low) 1) ∷ []; said = pos 2 ∷ pos 1 ∷ [] }
    ∷ record { given = signed (hash_of high low) 0 (pos 1) ∷ signed (hash_of high low) 1 (pos 1) ∷ []; said = pos 1 ∷ negsuc 0 ∷ [] }
    -- "Weight 5: counters +5 and −5, norms 25 and 25, estimate 5, L2 5."
    ∷ record {
      given = after_a.counters;
      said = pos 0 ∷ pos 0 ∷ pos 5 ∷ pos 0 ∷ pos 0 ∷ negsuc 4 ∷ pos 0 ∷ pos 0 ∷ replicate 8 (pos 0);
    }
    ∷ record { given = map pos (norms_of after_a.norms 4); said = pos 25 ∷ pos 25 ∷ pos 0 ∷ pos 0 ∷ [] }
    ∷ record { given = bits_z (estimate_f 2 4 (hash_of high low) after_a.counters) ∷ []; said = pos 0x4014000000000000 ∷ [] }
    ∷ record { given = answer_words (l2_call after_a.head after_a.norms); said = pos 0 ∷ pos 0x4014000000000000 ∷ [] }
    -- "Capped square of 3,037,000,499: 9,223,372,030,926,249,001. Of 3,037,000,500: 2^63."
    ∷ record { given = pos (capped (pos 3037000499)) ∷ pos (capped (pos 3037000500)) ∷ []; said = pos 9223372030926249001 ∷ pos (2 ^ 63) ∷ [] }
    -- "Norm 2^53 + 1 reads as 2^53. Two capped cells read as 2^63."
    ∷ record { given = bits_z (norm_read 9007199254740993) ∷ []; said = pos 0x4340000000000000 ∷ [] }
    ∷ record { given = bits_z (norm_read (row_norm 2 (pos 3037000500 ∷ negsuc 3037000499 ∷ []) 0)) ∷ []; said = pos 0x43E0000000000000 ∷ [] }
    -- "Standard mode, heap size 2, 2 layers, key A with bottom hash 0, key B with 2: cardinality 2."
    ∷ record { given = answer_words (cardinality_call after_b); said = pos 0 ∷ pos 0x4000000000000000 ∷ [] }
    ∷ []
