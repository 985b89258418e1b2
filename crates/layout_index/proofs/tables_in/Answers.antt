-- `layout_index::tables_in` meets its contract.
use native.Mathlib.Omega.{arith}
use Rattle.layout_index.proofs.Handed.{places_bound}
use Rattle.layout_index.proofs.tables_in.Goals as goal

pub index_length-requires : goal.index_length-requires
index_length-requires c = c.requires.small

pub overflow_mul-result : goal.overflow_mul-result
overflow_mul-result c =
    let a = c.args.shape in
    rw c.index_length.ensures (record { fits = omega (arith, places_bound a c.requires a.layers (omega arith)) })

pub returns : goal.returns
returns c = rw c.index_length.ensures
