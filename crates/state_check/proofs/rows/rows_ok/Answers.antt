-- `state_check::rows::rows_ok` meets its contract.
use Rattle.std.proofs.Common.{◌+◌, ◌*◌, ◌<◌, ◌≤◌, length, ◌∙◌, rules, arith}
use Rattle.std.proofs.lemmas.Iterator.{serves_from_Range, YieldsList-from_range}
use Rattle.std.proofs.lemmas.Iterator.Search.{all_from_yields_List}
use Rattle.matrix_storage.specs.Bits.{max_rows}
use Rattle.countsketch_l2_norm.proofs.Places.{row_end}
use Rattle.state_check.proofs.RowSums.{row_in, rows_walk}
use Rattle.state_check.proofs.rows.rows_ok.Goals as goal

pub all-requires-clause-callable : goal.all-requires-clause-callable
all-requires-clause-callable c =
    let a = c.args in
    serves_from_Range (λ r q k. search rules)
    (λ r low high.
    let few : r < max_rows = omega (arith, c.requires.shaped.few) in
    let wide = c.requires.shaped.wide in
    let long : r * a.cols + a.cols ≤ length a.counters.now = omega (arith, c.requires.cols_in_bounds.0, row_end r a.rows a.cols high) in
    let word : 2 * r + 2 ≤ length a.norms.now = omega (arith, c.requires.cols_in_bounds.1) in
    search rules)

pub returns : goal.returns
returns c =
    let a = c.args in
    let n = a.rows in
    all_from_yields_List (row_in a.cols a.counters.now a.norms.now) _ _ c.all.result c.all.ensures.ran (YieldsList-from_range 0 n n (cc) (omega arith)) (λ r b q k. search rules)
    ∙ rows_walk n a.cols a.counters.now a.norms.now n 0 (omega arith)
