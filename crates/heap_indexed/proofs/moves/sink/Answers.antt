-- `heap_indexed::moves::sink` meets its contract.
use Prim.Native.Nat.{◌+◌, ◌*◌}
use mathlib.Core.Path.{◌≡◌, refl, sym, ◌∙◌}
use mathlib.Core.Bool.{true, false}
use native.Mathlib.Omega.{arith}
use Rattle.heap_moves.specs.Flat.{cands_of}
use Rattle.heap_indexed.specs.Moves.{child_in}
use Rattle.heap_indexed.proofs.Steps.{said, sink-left, sink-right, sink-stays, sink_stuck, sink_again}
use Rattle.heap_indexed.proofs.moves.sink.Goals as goal
use Rattle.heap_indexed.proofs.moves.sink.Goals.{Else-not-child_in, Else-not-child_in-2}

left_in : (c : Else-not-child_in) → child_in c.args.n (cands_of c.loop-n.entries c.loop-n.counts) (2 * c.loop-n.i + 1) ≡ true
left_in c = sym (c.child_in.ensures _) ∙ c.if-not-child_in.false

right-in : (c : Else-not-child_in-2) → child_in c.args.n (cands_of c.loop-n.entries c.loop-n.counts) (2 * c.loop-n.i + 2) ≡ true
right-in c = sym (c.child_in-in-loop-n.ensures _) ∙ c.if-not-child_in-2.false

pub loop-n-init : goal.loop-n-init
loop-n-init c = (record { places = refl; words = refl; counts = refl }, record { here = c.requires.start_lt_n; fuel = c.args.n; enough = omega arith; goes = refl })

pub overflow_mul-i : goal.overflow_mul-i
overflow_mul-i c = omega (arith, c.loop-n.invariant.1.here, c.requires.cover.used)

pub overflow_add-i : goal.overflow_add-i
overflow_add-i c = omega (arith, c.loop-n.invariant.1.here, c.requires.cover.used)

pub child_in-requires : goal.child_in-requires
child_in-requires c = omega (arith, c.loop-n.invariant.0.counts, c.requires.cover.used)

pub shape_of-index-then-not-child_in : goal.shape_of-index-then-not-child_in
shape_of-index-then-not-child_in c = c.loop-n.invariant.0.places

pub shape_of-entries-then-not-child_in : goal.shape_of-entries-then-not-child_in
shape_of-entries-then-not-child_in c = c.loop-n.invariant.0.words

pub shape_of-counts-then-not-child_in : goal.shape_of-counts-then-not-child_in
shape_of-counts-then-not-child_in c = c.loop-n.invariant.0.counts

pub returns-then-not-child_in : goal.returns-then-not-child_in
returns-then-not-child_in c = sink-left _ _ _ _ _ c.loop-n.invariant.1 (sym (c.child_in.ensures _) ∙ c.if-not-child_in.true)

pub overflow_mul-i-in-loop-n : goal.overflow_mul-i-in-loop-n
overflow_mul-i-in-loop-n c = omega (arith, c.loop-n.invariant.1.here, c.requires.cover.used)

pub overflow_add-i-in-loop-n : goal.overflow_add-i-in-loop-n
overflow_add-i-in-loop-n c = omega (arith, c.loop-n.invariant.1.here, c.requires.cover.used)

pub child_in-requires-in-loop-n : goal.child_in-requires-in-loop-n
child_in-requires-in-loop-n c = omega (arith, c.loop-n.invariant.0.counts, c.requires.cover.used)

pub shape_of-index-then-not-child_in-2 : goal.shape_of-index-then-not-child_in-2
shape_of-index-then-not-child_in-2 c = c.loop-n.invariant.0.places

pub shape_of-entries-then-not-child_in-2 : goal.shape_of-entries-then-not-child_in-2
shape_of-entries-then-not-child_in-2 c = c.loop-n.invariant.0.words

pub shape_of-counts-then-not-child_in-2 : goal.shape_of-counts-then-not-child_in-2
shape_of-counts-then-not-child_in-2 c = c.loop-n.invariant.0.counts

pub returns-then-not-child_in-2 : goal.returns-then-not-child_in-2
returns-then-not-child_in-2 c = sink-right _ _ _ _ _ c.loop-n.invariant.1 (left_in (goal.at.returns-then-not-child_in-2 c).Else-not-child_in) (sym (c.child_in-in-loop-n.ensures _) ∙ c.if-not-child_in-2.true)

pub lowest-j-requires : goal.lowest-j-requires
lowest-j-requires c = (c.loop-n.invariant.1.here, omega (arith, c.loop-n.invariant.0.counts, c.requires.cover.used))

pub shape_of-index-then-j-i : goal.shape_of-index-then-j-i
shape_of-index-then-j-i c = c.loop-n.invariant.0.places

pub shape_of-entries-then-j-i : goal.shape_of-entries-then-j-i
shape_of-entries-then-j-i c = c.loop-n.invariant.0.words

pub shape_of-counts-then-j-i : goal.shape_of-counts-then-j-i
shape_of-counts-then-j-i c = c.loop-n.invariant.0.counts

pub returns-then-j-i : goal.returns-then-j-i
returns-then-j-i c = sink-stays _ _ _ _ _ c.loop-n.invariant.1 (left_in (goal.at.returns-then-j-i c).Else-not-child_in) (right-in (goal.at.returns-then-j-i c).Else-not-child_in-2) _ (c.lowest-j.ensures.0 _) c.if-j-i.true

pub swap-requires : goal.swap-requires
swap-requires c =
    let l = c.loop-n.invariant.0 in
    let pre = c.requires.cover in record {
      cover = record { words = omega (arith, l.words, l.counts, pre.words); used = omega (arith, l.counts, pre.used) };
      i_in_bounds = (omega (arith, l.counts, pre.used, c.loop-n.invariant.1.here), omega (arith, l.counts, pre.used, c.lowest-j.ensures.1.1));
    }

pub shape_of-index-then-not-swap : goal.shape_of-index-then-not-swap
shape_of-index-then-not-swap c = c.swap.auto.index ∙ c.loop-n.invariant.0.places

pub shape_of-entries-then-not-swap : goal.shape_of-entries-then-not-swap
shape_of-entries-then-not-swap c = c.swap.auto.entries ∙ c.loop-n.invariant.0.words

pub shape_of-counts-then-not-swap : goal.shape_of-counts-then-not-swap
shape_of-counts-then-not-swap c = c.swap.auto.counts ∙ c.loop-n.invariant.0.counts

pub returns-then-not-swap : goal.returns-then-not-swap
returns-then-not-swap c =
    sink_stuck _ _ _ _ _ c.loop-n.invariant.1 (left_in (goal.at.returns-then-not-swap c).Else-not-child_in) (right-in (goal.at.returns-then-not-swap c).Else-not-child_in-2) _ (c.lowest-j.ensures.0 _) c.if-j-i.false _
    (said _ false _ _ _ (c.if-not-swap.true) c.swap.ensures) refl

pub loop-n-smaller : goal.loop-n-smaller
loop-n-smaller c = omega (arith, c.lowest-j.ensures.1.0, c.lowest-j.ensures.1.1, c.if-j-i.false)

pub loop-n-preserved : goal.loop-n-preserved
loop-n-preserved c =
    let l = c.loop-n.invariant.0 in
    let k = c.swap.auto in (
      record { places = k.index ∙ l.places; words = k.entries ∙ l.words; counts = k.counts ∙ l.counts },
      sink_again _ _ _ _ _ c.loop-n.invariant.1 (left_in (goal.at.loop-n-preserved c).Else-not-child_in) (right-in (goal.at.loop-n-preserved c).Else-not-child_in-2) _ (c.lowest-j.ensures.0 _) c.if-j-i.false _
          c.swap.ensures (c.if-not-swap.false) c.lowest-j.ensures.1.0 c.lowest-j.ensures.1.1,
    )
