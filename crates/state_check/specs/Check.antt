-- The state check: "Yes exactly if lengths and ranges hold, each norm equals its row's sum, no count in a layer is below its heap parent's, and unused entries are zero."
use Rattle.std.specs.Prelude.{ℕ, zero, suc, ◌*◌, Bool, true, cond, ◌&&◌, List, get_or, pos, eqb, ltb}
use Rattle.std.specs.Int.Signed.{le_z}
use Rattle.words.specs.Num.{in_range, all_in}
use Rattle.words.specs.Parts.{part}
use Rattle.countsketch_l2_norm.specs.Sketch.{Sketch}
use Rattle.countsketch_l2_norm.specs.Merge.{row_norm}
use Rattle.heap_moves.specs.Cands.{Cand, no_cand, count_at, parent}
use Rattle.heap.specs.Offer.{Table}
use Rattle.header.specs.Header.{header_ok}
use Rattle.layer.specs.declared.Dims.{Dims}
use Rattle.layer.specs.Layer.{Layer}
use Rattle.layout.specs.State.{State, shape_of, dims_at, all_layers}
use Rattle.layout.specs.Slices.{Lent, lent_ok, view}

-- ---- counters and norms: "Counters and counts lie within ±2^52", "A norm is its row's sum of capped squares."

-- row r
abbrev pub row_ok : ℕ → Sketch → ℕ → Bool
row_ok cols s r = all_in (part (r * cols) cols s.cells) && eqb (get_or s.norms r 0) (row_norm cols s.cells r)

-- k rows from row r on
unfoldable pub rows_ok : ℕ → Sketch → ℕ → ℕ → Bool
rows_ok cols s zero r = true
rows_ok cols s (suc k) r = row_ok cols s r && rows_ok cols s k (suc r)

-- ---- candidates

-- an unused entry is zero: key, bottom hash, both halves and the count
unfoldable pub is_none : Cand → Bool
is_none c = eqb c.item.key 0 && eqb c.item.bottom 0 && eqb c.item.high 0 && eqb c.item.low 0 && (le_z c.count (pos 0) && le_z (pos 0) c.count)

-- a candidate's count is in range and not below its parent's
abbrev pub seated_ok : List Cand → ℕ → Bool
seated_ok cs i = in_range (count_at cs i) && le_z (count_at cs (parent i)) (count_at cs i)

-- place i: used if it is below the length
abbrev pub seat_ok : Table → ℕ → Bool
seat_ok t i = cond (ltb i t.len) (seated_ok t.cands i) (is_none (get_or t.cands i no_cand))

-- k places from place i on
unfoldable pub seats_ok : Table → ℕ → ℕ → Bool
seats_ok t zero i = true
seats_ok t (suc k) i = seat_ok t i && seats_ok t k (suc i)

-- ---- a layer, and a state

unfoldable pub layer_ok : Dims → Layer → Bool
layer_ok d y = rows_ok d.cols y.sketch d.rows 0 && seats_ok y.table d.size 0

-- every layer
abbrev pub layers_ok : State → Bool
layers_ok s = all_layers (λ l y. layer_ok (dims_at (shape_of s) l) y) (shape_of s).layers 0 s

unfoldable pub state_ok : Lent → Bool
state_ok r = header_ok r.head && lent_ok r && layers_ok (view r)
