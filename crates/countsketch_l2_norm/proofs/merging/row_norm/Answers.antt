-- `countsketch_l2_norm::merging::row_norm` meets its contract.
use mir.Syntax.{w64}
use Prim.Native.Nat.{ℕ, ◌+◌, ◌*◌, ◌<◌}
use mathlib.Core.Path.{◌≡◌, sym, ap, ◌∙◌}
use native.Mathlib.Omega.{arith}
use borrow.Author.Rules.{sfits_of}
use mir.Facts.{to_z-of_z}
use Rattle.countsketch_l2_norm.proofs.Places.{row_small}
use Rattle.countsketch_l2_norm.proofs.Merges.{squares-none, squares_more, row-length, row-cell}
use Rattle.countsketch_l2_norm.specs.Sketch.{cell_at}
use Rattle.countsketch_l2_norm.specs.Merge.{squares_from}
use Rattle.words.proofs.Squares.{capped_le}
use Rattle.words.specs.Num.{capped}
use Rattle.words.specs.Wide.{two_words}
use Rattle.countsketch_l2_norm.proofs.merging.row_norm.Goals as goal
use Rattle.countsketch_l2_norm.proofs.merging.row_norm.Goals.{After-capped_square}

square-is : (c : After-capped_square) → c.capped_square.result ≡ capped (cell_at c.args.counters.now (c.args.r * c.args.cols + c.loop-x.x-index))
square-is c = c.capped_square.ensures ∙ ap capped (to_z-of_z {w = w64} (sfits_of c.capped_square-arg-1.given) ∙ row-cell (c.args.r * c.args.cols) c.args.cols c.loop-x.x-index c.args.counters.now c.requires.cols_in_bounds c.loop-x-test.true)

pub overflow_mul-a : goal.overflow_mul-a
overflow_mul-a c = let a = c.args in record { fits = omega (arith, row_small a.r a.cols c.requires.r_lt_max_rows.0 c.requires.r_lt_max_rows.1) }

pub loop-x-init : goal.loop-x-init
unfolding two_words
loop-x-init c = (sym (squares-none (c.args.r * c.args.cols) c.args.counters.now), omega arith)

pub plus-acc-requires : goal.plus-acc-requires
plus-acc-requires c =
    let a = c.args in
    let below : c.loop-x.x-index < a.cols = omega (arith, c.loop-x-test.true, row-length (a.r * a.cols) a.cols a.counters.now c.requires.cols_in_bounds) in
    omega (arith, square-is (goal.at.plus-acc-requires c).After-capped_square, capped_le (cell_at a.counters.now (a.r * a.cols + c.loop-x.x-index)), c.loop-x.invariant.1, c.requires.r_lt_max_rows.1)

pub loop-x-preserved : goal.loop-x-preserved
loop-x-preserved c =
    let a = c.args in
    let k = c.loop-x.x-index in
    let q = square-is (goal.at.loop-x-preserved c).After-capped_square in
    (omega (arith, c.plus-acc.ensures, q, squares_more (a.r * a.cols) k a.counters.now, c.loop-x.invariant.0), omega (arith, c.plus-acc.ensures, q, capped_le (cell_at a.counters.now (a.r * a.cols + k)), c.loop-x.invariant.1))

pub returns : goal.returns
returns c =
    let a = c.args in
    let e : c.loop-x.x-index ≡ a.cols = omega (arith, c.loop-x-test.false, c.loop-x.auto.x-index-end, row-length (a.r * a.cols) a.cols a.counters.now c.requires.cols_in_bounds) in
    c.loop-x.invariant.0 ∙ ap (λ (n : ℕ). squares_from (a.r * a.cols) n a.counters.now) e
