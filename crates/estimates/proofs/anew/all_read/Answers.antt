-- `estimates::anew::all_read` meets its contract.
use Rattle.std.proofs.Common.{ℕ, Bool, ◌∙◌, rules, arith}
use Rattle.std.proofs.lemmas.Iterator.{YieldsList-from_range}
use Rattle.std.proofs.lemmas.Iterator.Search.{all_from_yields_List}
use Rattle.countsketch_l2_norm.specs.Estimate.{cells_in_range}
use Rattle.heap_moves.specs.Flat.{item_of}
use Rattle.layer.specs.Layer.{hash_by}
use Rattle.words.proofs.Walks.{walked}
use Rattle.estimates.proofs.Places.{scanned, read_step, read_none}
use Rattle.estimates.proofs.anew.all_read.Goals as goal

pub returns : goal.returns
returns c =
    let y = c.args.layer in
    let t : ℕ → Bool = λ i. cells_in_range y.dims.cols (hash_by (item_of y.entries.now i)) y.cells.now y.dims.rows 0 in
    all_from_yields_List t _ _ c.all.result c.all.ensures.ran (YieldsList-from_range 0 y.len y.len (cc) (omega arith)) (λ i b q k. search rules)
    ∙ walked (scanned y.dims y.cells.now y.entries.now) t (read_step y.dims y.cells.now y.entries.now) (read_none y.dims y.cells.now y.entries.now) y.len 0
