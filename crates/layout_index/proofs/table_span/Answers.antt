-- `layout_index::table_span` meets its contract.
use Rattle.std.proofs.Common.{arith}
use Rattle.layout_index.proofs.Handed.{table_bound, places_bound}
use Rattle.layout_index.proofs.table_span.Goals as goal

pub overflow_mul-start : goal.overflow_mul-start
overflow_mul-start c =
    let a = c.args in
    rw c.index_length-m.ensures (record { fits = omega (arith, places_bound a.shape c.requires.accepted a.l (omega (arith, c.requires.l_lt_layers))) })

pub overflow_add-result : goal.overflow_add-result
overflow_add-result c =
    let a = c.args in
    rw c.index_length-m.ensures
    (record { fits = omega (arith, places_bound a.shape c.requires.accepted a.l (omega (arith, c.requires.l_lt_layers)), table_bound a.shape c.requires.accepted) })
