-- `state_check::rows::row_ok` meets its contract.
use Prim.Native.Nat.{ℕ, ◌+◌, ◌-◌, ◌*◌, ◌≤◌}
use mathlib.Core.Path.{◌≡◌, sym, ap, ◌∙◌}
use lib.ListN.{length}
use lib.Dec.{eqb}
use native.Mathlib.Omega.{arith}
use borrow.Author.Rules.{rules, sfits_of}
use mir.Facts.{to_z-of_z}
use Rattle.words.specs.Num.{in_range, capped}
use Rattle.words.specs.Wide.{two_words, value_of}
use Rattle.words.specs.Parts.{part}
use Rattle.words.proofs.Parts.{length_part}
use Rattle.words.proofs.Squares.{capped_le}
use Rattle.countsketch_l2_norm.specs.Sketch.{cell_at}
use Rattle.countsketch_l2_norm.specs.Merge.{squares_from}
use Rattle.countsketch_l2_norm.proofs.Merges.{squares-none, squares_more, squares-most}
use Rattle.state_check.proofs.RowSums.{walked_at, same_words, sum-all, sum-none, sum-next}
use Rattle.state_check.proofs.rows.row_ok.Goals as goal
use Rattle.state_check.proofs.rows.row_ok.Goals.{After-capped_square, After-in_range}

range-is : (c : After-in_range) → c.in_range.result ≡ in_range (cell_at c.args.counters.now (c.args.r * c.args.cols + c.loop-x.x-index))
range-is c =
    let a = c.args in
    rw (to_z-of_z (sfits_of c.in_range-arg-1.given)) at c.in_range.ensures ∙ ap in_range (walked_at a.counters.now (a.r * a.cols) a.cols c.loop-x.x-index c.requires.cols_in_bounds c.loop-x-test.true)

square-is : (c : After-capped_square) → c.capped_square.result ≡ capped (cell_at c.args.counters.now (c.args.r * c.args.cols + c.loop-x.x-index))
square-is c =
    let a = c.args in
    rw (to_z-of_z (sfits_of c.capped_square-arg-1.given)) at c.capped_square.ensures ∙ ap capped (walked_at a.counters.now (a.r * a.cols) a.cols c.loop-x.x-index c.requires.cols_in_bounds c.loop-x-test.true)

pub loop-x-init : goal.loop-x-init
unfolding two_words
loop-x-init c = record { sums = record { low = omega arith; all = λ k l. absurd (omega arith); is = sym (squares-none (c.args.r * c.args.cols) c.args.counters.now) }; low_word = omega arith }

pub returns-then-not-in_range : goal.returns-then-not-in_range
returns-then-not-in_range c = let a = c.args in sum-none a.counters.now (a.r * a.cols) a.cols c.loop-x.x-index _ (omega (arith, c.loop-x-test.true)) (sym (range-is (goal.at.returns-then-not-in_range c).After-in_range) ∙ c.if-not-in_range.true)

pub plus-sum-requires : goal.plus-sum-requires
plus-sum-requires c =
    let a = c.args in
    let k = c.loop-x.x-index in
    omega (arith, square-is (goal.at.plus-sum-requires c).After-capped_square, capped_le (cell_at a.counters.now (a.r * a.cols + k)), c.loop-x.invariant.sums.is, squares-most (a.r * a.cols) k a.counters.now, c.requires.r_lt_max_rows.1, c.loop-x-test.true)

pub loop-x-preserved : goal.loop-x-preserved
loop-x-preserved c =
    let a = c.args in
    let k = c.loop-x.x-index in
    record {
      sums = sum-next a.counters.now (a.r * a.cols) a.cols k _ _ c.loop-x.invariant.sums (omega (arith, c.loop-x-test.true)) (sym (range-is (goal.at.loop-x-preserved c).After-in_range) ∙ c.if-not-in_range.false)
          (omega (arith, c.plus-sum.ensures, square-is (goal.at.loop-x-preserved c).After-capped_square, squares_more (a.r * a.cols) k a.counters.now, c.loop-x.invariant.sums.is));
      low_word = search rules;
    }

pub returns : goal.returns
returns c =
    let a = c.args in
    let s = c.loop-x.invariant.sums in
    let z : a.r * a.cols + a.cols - a.r * a.cols ≡ a.cols = omega arith in
    let h : length (part (a.r * a.cols) a.cols a.counters.now) ≤ c.loop-x.x-index = rw z at c.loop-x-test.false in
    let k : c.loop-x.x-index ≡ a.cols = omega (arith, s.low, h, length_part (a.r * a.cols) a.cols a.counters.now c.requires.cols_in_bounds) in
    c.eq.ensures
    ∙ same_words a.norm.lo a.norm.hi c.loop-x.sum.lo c.loop-x.sum.hi (search rules) c.loop-x.invariant.low_word
    ∙ ap (eqb (value_of a.norm)) (s.is ∙ ap (λ (n : ℕ). squares_from (a.r * a.cols) n a.counters.now) k)
    ∙ sym (rw (sum-all a.counters.now (a.r * a.cols) a.cols c.loop-x.x-index _ s (omega (arith, k)) c.requires.cols_in_bounds))
