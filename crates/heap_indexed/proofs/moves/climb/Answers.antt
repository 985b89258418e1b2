-- `heap_indexed::moves::climb` meets its contract.
use Prim.Native.Nat.{◌-◌, ◌/◌}
use mathlib.Core.Path.{◌≡◌, refl, sym, ◌∙◌}
use mathlib.Core.Bool.{true, false}
use native.Mathlib.Omega.{arith}
use Rattle.heap_moves.specs.Flat.{cands_of}
use Rattle.heap_indexed.specs.Moves.{child_in}
use Rattle.heap_indexed.proofs.Steps.{said, climb-top, climb-range, climb-stays, climb_stuck, climb_again}
use Rattle.heap_indexed.proofs.moves.climb.Goals as goal
use Rattle.heap_indexed.proofs.moves.climb.Goals.{Else-not-child_in}

-- what the calls say
in-range : (c : Else-not-child_in) → child_in c.args.n (cands_of c.loop-i.entries c.loop-i.counts) ((c.loop-i.i - 1) / 2) ≡ true
in-range c = sym (c.child_in.ensures _) ∙ c.if-not-child_in.false

pub loop-i-init : goal.loop-i-init
loop-i-init c = (c.requires.start_lt_n, (record { places = refl; words = refl; counts = refl }, record { fuel = c.args.start; enough = omega arith; goes = refl }))

pub overflow_sub-p : goal.overflow_sub-p
overflow_sub-p c = omega arith

pub child_in-requires : goal.child_in-requires
child_in-requires c = let l = c.loop-i.invariant.1.0 in let pre = c.requires.cover in omega (arith, l.counts, pre.used)

pub shape_of-index-then-not-child_in : goal.shape_of-index-then-not-child_in
shape_of-index-then-not-child_in c = c.loop-i.invariant.1.0.places

pub shape_of-entries-then-not-child_in : goal.shape_of-entries-then-not-child_in
shape_of-entries-then-not-child_in c = c.loop-i.invariant.1.0.words

pub shape_of-counts-then-not-child_in : goal.shape_of-counts-then-not-child_in
shape_of-counts-then-not-child_in c = c.loop-i.invariant.1.0.counts

pub returns-then-not-child_in : goal.returns-then-not-child_in
returns-then-not-child_in c =
    climb-range _ _ _ _ _ c.loop-i.invariant.1.1 c.loop-i-test.true c.loop-i.invariant.0 _ refl (sym (c.child_in.ensures _) ∙ c.if-not-child_in.true)

pub should_swap-requires : goal.should_swap-requires
should_swap-requires c =
    let l = c.loop-i.invariant.1.0 in
    let pre = c.requires.cover in
    (omega (arith, l.counts, pre.used, c.loop-i.invariant.0), omega (arith, l.counts, pre.used, c.loop-i.invariant.0))

pub shape_of-index-then-not-should_swap : goal.shape_of-index-then-not-should_swap
shape_of-index-then-not-should_swap c = c.loop-i.invariant.1.0.places

pub shape_of-entries-then-not-should_swap : goal.shape_of-entries-then-not-should_swap
shape_of-entries-then-not-should_swap c = c.loop-i.invariant.1.0.words

pub shape_of-counts-then-not-should_swap : goal.shape_of-counts-then-not-should_swap
shape_of-counts-then-not-should_swap c = c.loop-i.invariant.1.0.counts

pub returns-then-not-should_swap : goal.returns-then-not-should_swap
returns-then-not-should_swap c =
    climb-stays _ _ _ _ _ c.loop-i.invariant.1.1 c.loop-i-test.true c.loop-i.invariant.0 _ refl (in-range (goal.at.returns-then-not-should_swap c).Else-not-child_in)
    (sym (c.should_swap.ensures _) ∙ c.if-not-should_swap.true)

pub swap-requires : goal.swap-requires
swap-requires c =
    let l = c.loop-i.invariant.1.0 in
    let pre = c.requires.cover in record {
      cover = record { words = omega (arith, l.words, l.counts, pre.words); used = omega (arith, l.counts, pre.used) };
      i_in_bounds = (omega (arith, l.counts, pre.used, c.loop-i.invariant.0), omega (arith, l.counts, pre.used, c.loop-i.invariant.0));
    }

pub shape_of-index-then-not-swap : goal.shape_of-index-then-not-swap
shape_of-index-then-not-swap c = c.swap.auto.index ∙ c.loop-i.invariant.1.0.places

pub shape_of-entries-then-not-swap : goal.shape_of-entries-then-not-swap
shape_of-entries-then-not-swap c = c.swap.auto.entries ∙ c.loop-i.invariant.1.0.words

pub shape_of-counts-then-not-swap : goal.shape_of-counts-then-not-swap
shape_of-counts-then-not-swap c = c.swap.auto.counts ∙ c.loop-i.invariant.1.0.counts

pub returns-then-not-swap : goal.returns-then-not-swap
returns-then-not-swap c =
    climb_stuck _ _ _ _ _ c.loop-i.invariant.1.1 c.loop-i-test.true c.loop-i.invariant.0 _ refl (in-range (goal.at.returns-then-not-swap c).Else-not-child_in)
    (sym (c.should_swap.ensures _) ∙ c.if-not-should_swap.false) _ (said _ false _ _ _ (c.if-not-swap.true) c.swap.ensures) refl

pub loop-i-smaller : goal.loop-i-smaller
loop-i-smaller c = omega arith

pub loop-i-preserved : goal.loop-i-preserved
loop-i-preserved c =
    let l = c.loop-i.invariant.1.0 in
    let k = c.swap.auto in (
      omega (arith, c.loop-i.invariant.0),
      (
        record { places = k.index ∙ l.places; words = k.entries ∙ l.words; counts = k.counts ∙ l.counts },
        climb_again _ _ _ _ _ c.loop-i.invariant.1.1 c.loop-i-test.true c.loop-i.invariant.0 _ refl (in-range (goal.at.loop-i-preserved c).Else-not-child_in)
            (sym (c.should_swap.ensures _) ∙ c.if-not-should_swap.false) _ c.swap.ensures (c.if-not-swap.false),
      ),
    )

pub shape_of-index : goal.shape_of-index
shape_of-index c = c.loop-i.invariant.1.0.places

pub shape_of-entries : goal.shape_of-entries
shape_of-entries c = c.loop-i.invariant.1.0.words

pub shape_of-counts : goal.shape_of-counts
shape_of-counts c = c.loop-i.invariant.1.0.counts

pub returns : goal.returns
returns c = climb-top _ _ _ _ _ c.loop-i.invariant.1.1 (omega arith)
