-- Two layers made one.
use Rattle.std.specs.Prelude.{ℕ, Bool, false, cond, ◌&&◌, ◌||◌, List, [], ◌∷◌, ◌++◌, map, length, take, ℤ, eqb, leb}
use Rattle.words.specs.Num.{all_in}
use Rattle.countsketch_l2_norm.specs.Sketch.{Sketch}
use Rattle.countsketch_l2_norm.specs.Merge.{sums, merge_sketch}
use Rattle.heap_moves.specs.declared.Item.{Item}
use Rattle.heap_moves.specs.Cands.{Cand}
use Rattle.heap.specs.declared.Answer.{Answer}
use Rattle.heap.specs.Offer.{Table}
use Rattle.layer.specs.declared.Dims.{Dims}
use Rattle.layer.specs.Layer.{Layer, offer_to, counts_read, no_table}

unfoldable pub has_key : ℕ → List ℕ → Bool
has_key k [] = false
has_key k (x ∷ xs) = eqb x k || has_key k xs

-- "first entry order, self's candidates and then the other's, with the first entry's hashes": the first entries of keys not seen before
unfoldable pub firsts : List ℕ → List Item → List Item
firsts seen [] = []
firsts seen (w ∷ ws) = cond (has_key w.key seen) (firsts seen ws) (w ∷ firsts (w.key ∷ seen) ws)

-- the items of a table's candidates
unfoldable pub items : Table → List Item
items t = map (λ (c : Cand). c.item) (take t.len t.cands)

-- the distinct keys of two tables
abbrev pub both_items : Table → Table → List Item
both_items a b = firsts [] (items a ++ items b)

-- "A merge recounts the candidates from the merged counters": each is offered with its count
unfoldable pub offer_all : Dims → List ℤ → List Item → Table → Table
offer_all d cells [] t = t
offer_all d cells (w ∷ ws) t = offer_all d cells ws (offer_to d w cells t).table

-- which of the four things each offer did, in turn
unfoldable pub offer_answers : Dims → List ℤ → List Item → Table → List Answer
offer_answers d cells [] t = []
offer_answers d cells (w ∷ ws) t = (offer_to d w cells t).answer ∷ offer_answers d cells ws (offer_to d w cells t).table

unfoldable pub merge_layer : Dims → Layer → Layer → Layer
merge_layer d a b =
    let s : Sketch = merge_sketch d.rows d.cols a.sketch b.sketch in
    let ws : List Item = both_items a.table b.table in
    record { sketch = s; table = offer_all d s.cells ws (no_table d.size); flag = a.flag && b.flag && leb (length ws) d.size }

-- what a merge of two layers did with each distinct key, "keys in first entry order"
unfoldable pub merge_answer : Dims → Layer → Layer → List Answer
merge_answer d a b = offer_answers d (merge_sketch d.rows d.cols a.sketch b.sketch).cells (both_items a.table b.table) (no_table d.size)

-- a merge reads every counter and every candidate of both, and no norm
unfoldable pub merge_reads : Layer → Layer → Bool
merge_reads a b = all_in a.sketch.cells && counts_read a.table && all_in b.sketch.cells && counts_read b.table

unfoldable pub merge_fits : Layer → Layer → Bool
merge_fits a b = all_in (sums a.sketch.cells b.sketch.cells)
