-- `state_lines::rows::read_rows` meets its contract.
use Prim.Native.Nat.{suc}
use mathlib.Core.Path.{sym, ap, ◌∙◌}
use lib.ListN.{length, drop}
use lib.Seq.{length-sets}
use native.Mathlib.Omega.{arith}
use borrow.Author.Tests.{le-ltb, le-leb, lt-leb}
use Rattle.state_forms.specs.Grammar.{cell_listing}
use Rattle.state_forms.specs.Sparse.{sparse_r}
use Rattle.state_lines.proofs.Known.{known}
use Rattle.state_lines.proofs.RowWalk.{rows_start, rows_end, rows-form, rows_out, rows-cells, rows-line, rows_on, mul-le, mul_small}
use Rattle.state_lines.proofs.rows.read_rows.Goals as goal

pub loop-r-init : goal.loop-r-init
loop-r-init c = (omega arith, rows_start c.args.l c.args.cols c.args.rows c.args.cells.now (drop c.args.at c.args.s.now))

pub overflow_mul-a : goal.overflow_mul-a
overflow_mul-a c = record { fits = omega (arith, mul_small c.loop-r.r c.args.cols (omega (arith, c.requires.0, c.loop-r.invariant.0)) c.requires.1) }

pub overflow_mul-e : goal.overflow_mul-e
overflow_mul-e c = record { fits = omega (arith, mul_small c.args.rows c.args.cols c.requires.0 c.requires.1) }

pub keep_none-requires : goal.keep_none-requires
keep_none-requires c = mul-le c.args.rows c.loop-r.r c.args.cols c.loop-r.invariant.0

pub shape_of-cells-then-not-has_word : goal.shape_of-cells-then-not-has_word
shape_of-cells-then-not-has_word c = ap length c.keep_none.ensures ∙ simp length-sets c.loop-r.invariant.1.left.walk.long

pub returns-then-not-has_word : goal.returns-then-not-has_word
returns-then-not-has_word c =
    let p = rows_end c.loop-r.invariant.1 c.loop-r.invariant.0 (sym c.has_word.ensures ∙ c.if-not-has_word.true) c.keep_none.new.cells c.keep_none.ensures in
    record { result_value = p.0; cells_after = p.1 }

pub shape_of-cells-in_err-j : goal.shape_of-cells-in_err-j
shape_of-cells-in_err-j c = c.loop-r.invariant.1.left.walk.long

pub returns-in_err-j : goal.returns-in_err-j
returns-in_err-j c =
    let p = rows-form c.loop-r.invariant.1 c.loop-r.invariant.0 (sym c.has_word.ensures ∙ c.if-not-has_word.false) (sym c.in_err-j.ensures) c.loop-r.cells in
    record { result_value = rw c.from_residual.ensures p.0; cells_after = p.1 }

pub shape_of-cells-then-k-r : goal.shape_of-cells-then-k-r
shape_of-cells-then-k-r c = c.loop-r.invariant.1.left.walk.long

pub returns-then-k-r : goal.returns-then-k-r
returns-then-k-r c =
    let p = rows_out c.loop-r.invariant.1 c.loop-r.invariant.0 (sym c.has_word.ensures ∙ c.if-not-has_word.false) c.in_ok-j.j (drop c.in_ok-j.n c.args.s.now) (sym c.in_ok-j.ensures) (rw (lt-leb c.loop-r.r c.in_ok-j.j c.if-k-r.true)) c.loop-r.cells in
    record { result_value = p.0; cells_after = p.1 }

pub shape_of-cells-then-rows-k : goal.shape_of-cells-then-rows-k
shape_of-cells-then-rows-k c = c.loop-r.invariant.1.left.walk.long

pub returns-then-rows-k : goal.returns-then-rows-k
returns-then-rows-k c =
    let p = rows_out c.loop-r.invariant.1 c.loop-r.invariant.0 (sym c.has_word.ensures ∙ c.if-not-has_word.false) c.in_ok-j.j (drop c.in_ok-j.n c.args.s.now) (sym c.in_ok-j.ensures) (rw (le-leb c.loop-r.r c.in_ok-j.j c.if-k-r.false, le-ltb c.in_ok-j.j c.args.rows c.if-rows-k.true)) c.loop-r.cells in
    record { result_value = p.0; cells_after = p.1 }

pub overflow_mul-b : goal.overflow_mul-b
overflow_mul-b c = record { fits = omega (arith, mul_small c.in_ok-j.j c.args.cols (omega (arith, c.requires.0, c.if-rows-k.false)) c.requires.1) }

pub keep_none-requires-in-loop-r : goal.keep_none-requires-in-loop-r
keep_none-requires-in-loop-r c = mul-le c.in_ok-j.j c.loop-r.r c.args.cols c.if-k-r.false

pub read_cells-requires : goal.read_cells-requires
read_cells-requires c = omega (arith, mul_small c.in_ok-j.j c.args.cols (omega (arith, c.requires.0, c.if-rows-k.false)) c.requires.1, c.requires.1)

pub shape_of-cells-in_err-m : goal.shape_of-cells-in_err-m
shape_of-cells-in_err-m c = (c.read_cells.auto.cells ∙ ap length c.keep_none-in-loop-r.ensures ∙ simp length-sets c.loop-r.invariant.1.left.walk.long)

pub returns-in_err-m : goal.returns-in_err-m
returns-in_err-m c =
    let p = rows-cells c.loop-r.invariant.1 c.loop-r.invariant.0 (sym c.has_word.ensures ∙ c.if-not-has_word.false) c.in_ok-j.j (drop c.in_ok-j.n c.args.s.now) (sym c.in_ok-j.ensures) c.in_err-m.ensures.result_value c.read_cells.new.cells in
    record { result_value = rw c.from_residual-in_err-m.ensures p.0; cells_after = p.1 }

pub shape_of-cells-in_err-p : goal.shape_of-cells-in_err-p
shape_of-cells-in_err-p c = (c.read_cells.auto.cells ∙ ap length c.keep_none-in-loop-r.ensures ∙ simp length-sets c.loop-r.invariant.1.left.walk.long)

pub returns-in_err-p : goal.returns-in_err-p
returns-in_err-p c =
    let p = rows-line c.loop-r.invariant.1 c.loop-r.invariant.0 (sym c.has_word.ensures ∙ c.if-not-has_word.false) c.in_ok-j.j (drop c.in_ok-j.n c.args.s.now) (sym c.in_ok-j.ensures) (known (sparse_r cell_listing (suc c.args.cols) 0 c.args.cols (drop c.in_ok-j.n c.args.s.now)) (drop c.in_ok-m.m c.args.s.now) c.in_ok-m.ensures.result_value).0 (drop c.in_ok-m.m c.args.s.now) (known (sparse_r cell_listing (suc c.args.cols) 0 c.args.cols (drop c.in_ok-j.n c.args.s.now)) (drop c.in_ok-m.m c.args.s.now) c.in_ok-m.ensures.result_value).1 (sym c.in_err-p.ensures) c.read_cells.new.cells in
    record { result_value = rw c.from_residual-in_err-p.ensures p.0; cells_after = p.1 }

pub overflow_add-r : goal.overflow_add-r
overflow_add-r c = record { fits = omega (arith, c.requires.0, c.if-rows-k.false) }

pub loop-r-smaller : goal.loop-r-smaller
loop-r-smaller c = omega (arith, c.if-k-r.false, c.if-rows-k.false)

pub loop-r-preserved : goal.loop-r-preserved
loop-r-preserved c =
    let d = (known (sparse_r cell_listing (suc c.args.cols) 0 c.args.cols (drop c.in_ok-j.n c.args.s.now)) (drop c.in_ok-m.m c.args.s.now) c.in_ok-m.ensures.result_value) in (
      omega (arith, c.if-rows-k.false),
      rows_on c.loop-r.invariant.1 c.loop-r.invariant.0 (sym c.has_word.ensures ∙ c.if-not-has_word.false) c.in_ok-j.j (drop c.in_ok-j.n c.args.s.now) (sym c.in_ok-j.ensures) d.0 (drop c.in_ok-m.m c.args.s.now) d.1 (drop c.in_ok-p.p c.args.s.now) (sym c.in_ok-p.ensures)
          c.if-k-r.false c.if-rows-k.false c.keep_none-in-loop-r.new.cells c.read_cells.new.cells c.keep_none-in-loop-r.ensures (c.read_cells.ensures.cells_after d.0 (drop c.in_ok-m.m c.args.s.now) d.1),
    )

pub shape_of-cells : goal.shape_of-cells
shape_of-cells c = c.loop-r.invariant.1.left.walk.long

pub returns : goal.returns
returns c = absurd (omega (arith, c.loop-r.invariant.0, c.loop-r-test.false))
