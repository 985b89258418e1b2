-- `state_lines::cells::read_cells` meets its contract.
use Prim.Native.Nat.{◌+◌, ◌-◌, ◌≤◌, ◌<◌}
use mathlib.Core.Path.{◌≡◌, sym, ap, ◌∙◌}
use mathlib.Core.List.{List}
use lib.ListN.{length, set, drop, replicate}
use lib.Seq.{sets, length-sets}
use lib.IntN.{ℤ, pos}
use native.Mathlib.Omega.{arith}
use borrow.Author.Tests.{le-ltb, le-leb, lt-leb}
use Rattle.text.proofs.IntReads.{fits-back}
use Rattle.state_forms.proofs.Rows.{cell-exact}
use Rattle.state_lines.proofs.Readings.{start, ends, stops-form, stops-column, goes}
use Rattle.state_lines.proofs.cells.read_cells.Goals as goal

pub loop-c-init : goal.loop-c-init
loop-c-init c = let z : c.args.base + 0 ≡ c.args.base = omega arith in (omega arith, rw z (start c.args.cells.now c.args.base (drop c.args.at c.args.s.now) c.args.cols))

pub overflow_add-base : goal.overflow_add-base
overflow_add-base c = record { fits = omega (arith, c.requires, c.loop-c.invariant.0) }

pub overflow_add-base-then-not-has_word : goal.overflow_add-base-then-not-has_word
overflow_add-base-then-not-has_word c = record { fits = omega (arith, c.requires) }

pub keep_none-requires : goal.keep_none-requires
keep_none-requires c = omega (arith, c.loop-c.invariant.0)

pub shape_of-cells-then-not-has_word : goal.shape_of-cells-then-not-has_word
shape_of-cells-then-not-has_word c = ap length c.keep_none.ensures ∙ simp length-sets c.loop-c.invariant.1.walk.long

pub returns-then-not-has_word : goal.returns-then-not-has_word
returns-then-not-has_word c =
    let k : c.args.base + c.args.cols - (c.args.base + c.loop-c.c) ≡ c.args.cols - c.loop-c.c = omega arith in
    let p = ends c.loop-c.invariant.1 c.loop-c.invariant.0 (sym c.has_word.ensures ∙ c.if-not-has_word.true) c.keep_none.new.cells (rw k at c.keep_none.ensures) in
    record { result_value = p.0; cells_after = p.1 }

pub shape_of-cells-in_err-j : goal.shape_of-cells-in_err-j
shape_of-cells-in_err-j c = c.loop-c.invariant.1.walk.long

pub returns-in_err-j : goal.returns-in_err-j
returns-in_err-j c =
    let p = stops-form c.loop-c.invariant.1 c.loop-c.invariant.0 (sym c.has_word.ensures ∙ c.if-not-has_word.false) (sym c.in_err-j.ensures) c.loop-c.cells in
    record { result_value = rw c.from_residual.ensures p.0; cells_after = p.1 }

pub shape_of-cells-then-k-c : goal.shape_of-cells-then-k-c
shape_of-cells-then-k-c c = c.loop-c.invariant.1.walk.long

pub returns-then-k-c : goal.returns-then-k-c
returns-then-k-c c =
    let p = stops-column c.loop-c.invariant.1 c.loop-c.invariant.0 c.in_ok-j.j c.in_ok-j.v (drop c.in_ok-j.n c.args.s.now) (sym c.has_word.ensures ∙ c.if-not-has_word.false) (sym c.in_ok-j.ensures) (rw (lt-leb c.loop-c.c c.in_ok-j.j c.if-k-c.true)) c.loop-c.cells in
    record { result_value = p.0; cells_after = p.1 }

pub shape_of-cells-then-cols-k : goal.shape_of-cells-then-cols-k
shape_of-cells-then-cols-k c = c.loop-c.invariant.1.walk.long

pub returns-then-cols-k : goal.returns-then-cols-k
returns-then-cols-k c =
    let p = stops-column c.loop-c.invariant.1 c.loop-c.invariant.0 c.in_ok-j.j c.in_ok-j.v (drop c.in_ok-j.n c.args.s.now) (sym c.has_word.ensures ∙ c.if-not-has_word.false) (sym c.in_ok-j.ensures)
    (rw (le-leb c.loop-c.c c.in_ok-j.j c.if-k-c.false, le-ltb c.in_ok-j.j c.args.cols c.if-cols-k.true)) c.loop-c.cells in
    record { result_value = p.0; cells_after = p.1 }

pub overflow_add-base-in-loop-c : goal.overflow_add-base-in-loop-c
overflow_add-base-in-loop-c c = record { fits = omega (arith, c.requires, c.loop-c.invariant.0) }

pub overflow_add-base-in-loop-c-2 : goal.overflow_add-base-in-loop-c-2
overflow_add-base-in-loop-c-2 c = record { fits = omega (arith, c.requires, c.if-cols-k.false) }

pub keep_none-requires-in-loop-c : goal.keep_none-requires-in-loop-c
keep_none-requires-in-loop-c c = omega (arith, c.if-k-c.false)

pub overflow_add-base-in-loop-c-3 : goal.overflow_add-base-in-loop-c-3
overflow_add-base-in-loop-c-3 c = record { fits = omega (arith, c.requires, c.if-cols-k.false) }

pub overflow_add-c : goal.overflow_add-c
overflow_add-c c = record { fits = omega (arith, c.requires, c.if-cols-k.false) }

pub loop-c-smaller : goal.loop-c-smaller
loop-c-smaller c = omega (arith, c.if-k-c.false, c.if-cols-k.false)

pub loop-c-preserved : goal.loop-c-preserved
loop-c-preserved c =
    let b = c.args.base in
    let i = c.loop-c.c in
    let j = c.in_ok-j.j in
    let v = c.in_ok-j.v in
    let lo : i ≤ j = c.if-k-c.false in
    let hi : j < c.args.cols = c.if-cols-k.false in
    let z : b + (j + 1) ≡ b + j + 1 = omega arith in
    let k : b + j - (b + i) ≡ j - i = omega arith in
    let p : b + j ≡ b + i + (j - i) = omega arith in
    let e1 : c.keep_none-in-loop-c.new.cells ≡ sets c.loop-c.cells (b + i) (replicate (j - i) (pos 0)) = rw k at c.keep_none-in-loop-c.ensures in
    let e2 : c.keep.new.cells ≡ set (sets c.loop-c.cells (b + i) (replicate (j - i) (pos 0))) (b + j) v = rw (fits-back c.in_ok-j.v (cell-exact.sound (drop c.loop-c.p c.args.s.now) (c.in_ok-j.j, c.in_ok-j.v) (drop c.in_ok-j.n c.args.s.now) (sym c.in_ok-j.ensures)).0.0.1) at c.keep.ensures ∙ ap (λ (l : List ℤ). set l (b + j) v) e1 in
    (omega arith, rw z (goes c.loop-c.invariant.1 c.loop-c.invariant.0 j v (drop c.in_ok-j.n c.args.s.now) (sym c.has_word.ensures ∙ c.if-not-has_word.false) (sym c.in_ok-j.ensures) lo hi c.keep.new.cells (b + j) p e2))

pub shape_of-cells : goal.shape_of-cells
shape_of-cells c = c.loop-c.invariant.1.walk.long

pub returns : goal.returns
returns c = absurd (omega (arith, c.loop-c.invariant.0, c.loop-c-test.false))
