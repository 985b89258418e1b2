-- `layout::span_of` meets its contract.
use Rattle.std.proofs.Common.{◌*◌, ◌≤◌, refl, arith}
use Rattle.header.specs.Shape.{max_layers}
use Rattle.matrix_storage.specs.Bits.{max_rows, max_cols}
use Rattle.layout.proofs.Offsets.{table_bound, cells_bound, norms_bound, cand-off, shaped-at}
use Rattle.layout.specs.inner.Spans.{span_of}
use Rattle.layout.proofs.span_of.Goals as goal
use Rattle.layout.proofs.span_of.Goals.{After-dims-d, After-start_of-start}

-- how large the numbers are
cells-here : (c : After-start_of-start) → c.start_of-start.result.cells ≤ max_layers * (max_rows * max_cols)
cells-here c = omega (arith, c.start_of-start.ensures.0, cells_bound c.args.shape c.requires.accepted c.args.l (omega (arith, c.requires.l_lt_layers)))

rows-here : (c : After-start_of-start) → c.start_of-start.result.rows ≤ max_layers * max_rows
rows-here c = omega (arith, c.start_of-start.ensures.1, norms_bound c.args.shape c.requires.accepted c.args.l (omega (arith, c.requires.l_lt_layers)))

table : (c : After-dims-d) → c.dims-d.result.rows * c.dims-d.result.cols ≤ max_rows * max_cols
table c = rw c.dims-d.ensures (table_bound c.args.shape c.requires.accepted c.args.l)

lines : (c : After-dims-d) → c.dims-d.result.rows ≤ max_rows
lines c = rw c.dims-d.ensures (shaped-at c.args.shape c.requires.accepted c.args.l).few

pub overflow_mul-norms : goal.overflow_mul-norms
overflow_mul-norms c = record { fits = omega (arith, rows-here (goal.at.overflow_mul-norms c).After-start_of-start) }

pub overflow_mul-result : goal.overflow_mul-result
overflow_mul-result c = record { fits = omega (arith, table (goal.at.overflow_mul-result c).After-dims-d) }

pub overflow_add-result : goal.overflow_add-result
overflow_add-result c = let p = (goal.at.overflow_add-result c).After-dims-d in record { fits = omega (arith, table p, cells-here p.before) }

pub overflow_mul-result-2 : goal.overflow_mul-result-2
overflow_mul-result-2 c = record { fits = omega (arith, lines (goal.at.overflow_mul-result-2 c).After-dims-d) }

pub overflow_add-result-2 : goal.overflow_add-result-2
overflow_add-result-2 c = let p = (goal.at.overflow_add-result-2 c).After-dims-d in record { fits = omega (arith, rows-here p.before, lines p) }

pub returns : goal.returns
unfolding span_of
returns c =
    let s = c.args.shape in
    let l = c.args.l in
    let e = c.start_of-start.ensures in
    rw (c.dims-d.ensures, e.0, e.1, cand-off s l) refl
