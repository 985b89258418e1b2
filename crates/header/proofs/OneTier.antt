-- Shapes whose layers are alike. Assumes nothing.
use mathlib.Core.Path.{◌≡◌, refl, sym}
use mathlib.Core.Bool.{Bool, true, false, cond, ◌||◌}
use Prim.Native.Nat.{ℕ, ◌+◌, ◌*◌}
use lib.Dec.{eqb, ltb}
use Rattle.matrix_storage.specs.Bits.{max_rows, max_cols, hash_bits, mask_bits}
use Rattle.header.specs.Shape.{max_layers, max_heap, shape_refusal}
use Rattle.header.specs.OneTier.{OneTierRefusal, OneTiered, is_one_tier, its_one_tier}
use Rattle.header.specs.declared.Shape.{Shape}
use Rattle.header.proofs.Shapes.{same_of, same-shape}

pub one_tier-refusal : OneTierRefusal
unfolding shape_refusal
one_tier-refusal heap rows cols layers =
    go (eqb heap 0) (eqb rows 0) (eqb cols 0) (eqb layers 0) (ltb max_layers layers) (ltb hash_bits ((mask_bits cols + 1) * rows)) (ltb max_rows rows) (ltb max_cols cols) (ltb max_heap heap)
  where
    zeros : (h r c l : Bool) → h || (l || (r || c || (r || c))) ≡ h || (r || (c || l))
    zeros true r c l = refl
    zeros false true c true = refl
    zeros false true c false = refl
    zeros false false true true = refl
    zeros false false true false = refl
    zeros false false false true = refl
    zeros false false false false = refl

    tops : (r c h : Bool) → r || c || (r || c || h) ≡ r || (c || h)
    tops true c h = refl
    tops false true h = refl
    tops false false h = refl

    twice : (b : Bool) → b || b ≡ b
    twice true = refl
    twice false = refl

    below : (b : Bool) → b || false ≡ b
    below true = refl
    below false = refl

    go : (h r c l n k x y z : Bool)
        → ◌≡◌ {A = ℕ} (cond (h || (l || (r || c || (r || c)))) 1 (cond (n || ltb max_layers 0) 2 (cond (k || k) 3 (cond (x || y || (x || y || z)) 4 0))))
        (cond (h || (r || (c || l))) 1 (cond n 2 (cond k 3 (cond (x || (y || z)) 4 0))))
    go h r c l n k x y z = rw (zeros h r c l, below n, twice k, tops x y z)

-- the test and what it says
pub one-tiered : (sh : Shape) → is_one_tier sh ≡ true → OneTiered sh
one-tiered sh e = sym (same_of (its_one_tier sh) sh e)

pub is-one-tier : (sh : Shape) → OneTiered sh → is_one_tier sh ≡ true
is-one-tier sh e = same-shape (its_one_tier sh) sh (sym e)
