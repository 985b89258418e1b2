-- Dimensions, and the layer that a key reaches. A shape has two tiers: "layers below `elephant_layers` have one number of rows and columns, the others another"
-- (02, W4). The shape of `UnivMon`, whose layers are alike, is `one_tier` of its four dimensions (specs/OneTier).
use Rattle.std.specs.Prelude.{ℕ, zero, suc, ◌+◌, ◌-◌, ◌*◌, ◌/◌, ◌%◌, ◌^◌, Bool, cond, ◌&&◌, ◌||◌, eqb, ltb}
use Rattle.matrix_storage.specs.Bits.{max_rows, max_cols, hash_bits, mask_bits}
use Rattle.heap_moves.specs.Cands.{most_cands}
use Rattle.header.specs.declared.Shape.{Shape}
use Rattle.refusal.specs.Refusals.{Answer}

-- "Layers 1 to 19, rows 1 to 20, cols 1 to 4,096, heap size 1 to 1,024"
abbrev pub max_layers : ℕ
max_layers = 19

abbrev pub max_heap : ℕ
max_heap = most_cands

-- the shape of seven dimensions, in the order of the source's `new`: heap size, elephant layers, elephant rows and columns, mouse rows and columns, layers
abbrev pub two_tier : ℕ → ℕ → ℕ → ℕ → ℕ → ℕ → ℕ → Shape
two_tier heap elephants er ec mr mc layers =
    record {
      heap_size = heap;
      layers = layers;
      elephant_layers = elephants;
      elephant_rows = er;
      elephant_cols = ec;
      mouse_rows = mr;
      mouse_cols = mc;
    }

-- of one tier's rows and columns: whether there are none, whether they take too many hash bits, whether they are above the domain
abbrev pub empty_tier : ℕ → ℕ → Bool
empty_tier rows cols = eqb rows 0 || eqb cols 0

abbrev pub bits_above : ℕ → ℕ → Bool
bits_above rows cols = ltb hash_bits ((mask_bits cols + 1) * rows)

abbrev pub tier_above : ℕ → ℕ → Bool
tier_above rows cols = ltb max_rows rows || ltb max_cols cols

-- 1 "a dimension is 0", 2 "layers above 19", 3 "hash bits above 128", 4 "rows, cols or heap size above the domain"; 0 where nothing is refused. "Both shapes
-- meet 01's limits even when no layer uses one; `elephant_layers` is 0 to 19, else 2. Each of 1 to 4 is judged over both shapes before the next." (02, W4)
unfoldable pub shape_refusal : Shape → ℕ
shape_refusal sh =
    cond (eqb sh.heap_size 0 || (eqb sh.layers 0 || (empty_tier sh.elephant_rows sh.elephant_cols || empty_tier sh.mouse_rows sh.mouse_cols))) 1
    (cond (ltb max_layers sh.layers || ltb max_layers sh.elephant_layers) 2
    (cond (bits_above sh.elephant_rows sh.elephant_cols || bits_above sh.mouse_rows sh.mouse_cols) 3
    (cond (tier_above sh.elephant_rows sh.elephant_cols || (tier_above sh.mouse_rows sh.mouse_cols || ltb max_heap sh.heap_size)) 4
    0)))

-- the shape, or its refusal
unfoldable pub checked_shape : Shape → Answer Shape
checked_shape sh = cond (eqb (shape_refusal sh) 0) (Answer.yes sh) (Answer.no (shape_refusal sh))

-- 10 "layers, rows, cols or heap sizes differ in merge", "all seven dimensions": whether none does
abbrev pub same_tier : ℕ → ℕ → ℕ → ℕ → Bool
same_tier rows cols rows' cols' = eqb rows rows' && eqb cols cols'

abbrev pub same_shape : Shape → Shape → Bool
same_shape a b =
    eqb a.layers b.layers && eqb a.heap_size b.heap_size && eqb a.elephant_layers b.elephant_layers
    && same_tier a.elephant_rows a.elephant_cols b.elephant_rows b.elephant_cols
    && same_tier a.mouse_rows a.mouse_cols b.mouse_rows b.mouse_cols

-- "Bottom layer: l − 1 for the first l from 1 to layers − 1 whose hash bit l is 0, else layers − 1.": k layers from l on are looked at
unfoldable pub bottom_from : ℕ → ℕ → ℕ → ℕ
bottom_from h zero l = l - 1
bottom_from h (suc k) l = cond (eqb (h / 2 ^ l % 2) 0) (l - 1) (bottom_from h k (suc l))

unfoldable pub bottom_of : ℕ → ℕ → ℕ
bottom_of h layers = bottom_from h (layers - 1) 1

-- "a lone layer count: those of 1 to 4 that their numbers can meet"
unfoldable pub bottom_layer : ℕ → ℕ → Answer ℕ
bottom_layer h layers =
    cond (eqb layers 0) (Answer.no 1)
    (cond (ltb max_layers layers) (Answer.no 2)
    (Answer.yes (bottom_of h layers)))
