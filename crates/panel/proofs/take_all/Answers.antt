-- `panel::take_all` meets its contract.
use Prim.Native.Nat.{◌-◌, ◌^◌, ◌<◌}
use mathlib.Core.Path.{◌≡◌}
use lib.ListN.{length, take, drop, length-drop}
use lib.Seq.{take_all}
use native.Mathlib.Omega.{arith}
use borrow.Author.Rules.{rules}
use Rattle.layout.specs.Slices.{Lent, lent}
use Rattle.panel.proofs.Chunked.{part-start, part-next, part_end}
use Rattle.panel.proofs.take_all.Goals as goal
use Rattle.panel.proofs.take_all.Goals.{At-loop-from, Start}

-- the state that is lent
abbrev here : Start → Lent
here c = lent c.args.header c.args.counters.now c.args.norms.now c.args.entries.now c.args.counts.now

-- the state before the turn
abbrev now-lent : At-loop-from → Lent
now-lent c = lent c.loop-from.head c.loop-from.counters c.loop-from.norms c.loop-from.entries c.loop-from.counts

-- no slice is longer than a number
small : (c : Start) → length c.args.chunk.now < 2 ^ 64
small c = search rules

-- what is left of the chunk
left : (c : At-loop-from) → take (length c.args.chunk.now - c.loop-from.from) (drop c.loop-from.from c.args.chunk.now) ≡ drop c.loop-from.from c.args.chunk.now
left c = take_all (length c.args.chunk.now - c.loop-from.from) (drop c.loop-from.from c.args.chunk.now) (omega (arith, length-drop c.loop-from.from c.args.chunk.now))

pub loop-from-init : goal.loop-from-init
loop-from-init c = part-start c.args.chunk.now c.args.line.now c.args.held (here (goal.at.loop-from-init c).Start) c.args.out.now c.requires.held_le_most_held

pub slice_bounds-take_chunk-count : goal.slice_bounds-take_chunk-count
slice_bounds-take_chunk-count c = omega (arith, c.loop-from.invariant.inside)

pub slice_bounds-take_chunk-start : goal.slice_bounds-take_chunk-start
slice_bounds-take_chunk-start c = omega (arith, c.loop-from.invariant.inside)

pub slice_bounds-take_chunk-end : goal.slice_bounds-take_chunk-end
slice_bounds-take_chunk-end c = omega (arith, c.loop-from.invariant.inside)

pub take_chunk-t-requires : goal.take_chunk-t-requires
take_chunk-t-requires c = let z = c.loop-from.invariant in record {
  held_le_most_held = z.few;
  most_held_in_bounds = omega (arith, c.requires.most_held_in_bounds, z.long);
  longest_in_bounds = omega (arith, c.requires.longest_in_bounds, z.room);
}

pub print-written-requires : goal.print-written-requires
print-written-requires c = omega (arith, c.take_chunk-t.ensures.held_le_most_held_2.1, c.take_chunk-t.auto.out)

pub overflow_add-from : goal.overflow_add-from
overflow_add-from c =
    let e = rw (left (goal.at.overflow_add-from c).At-loop-from) at c.take_chunk-t.ensures.chunk_bound.1 in
    record { fits = omega (arith, small (goal.at.overflow_add-from c).Start, e, length-drop c.loop-from.from c.args.chunk.now, c.loop-from.invariant.inside) }

pub loop-from-smaller : goal.loop-from-smaller
loop-from-smaller c =
    let e = rw (left (goal.at.loop-from-smaller c).At-loop-from) at c.take_chunk-t.ensures.chunk_bound in
    omega (arith, e, length-drop c.loop-from.from c.args.chunk.now, c.loop-from-test.true)

pub loop-from-preserved : goal.loop-from-preserved
loop-from-preserved c =
    let l = c.loop-from in
    let w = left (goal.at.loop-from-preserved c).At-loop-from in
    let t = c.take_chunk-t.ensures in
    let o = rw w at t.out_after in
    let h = rw w at t.line_after in
    let b = rw w at t.chunk_bound in
    let k = c.take_chunk-t.auto in
    part-next c.args.chunk.now c.args.line.now c.args.held (here (goal.at.loop-from-preserved c).Start) c.args.out.now l.line (now-lent (goal.at.loop-from-preserved c).At-loop-from) l.out l.from l.n l.invariant
    _ _ _ b.1 t.held_le_most_held_2.0 k.line h
    _ _ _ o k.out (record { counters = k.counters; norms = k.norms; entries = k.entries; counts = k.counts })

pub shape_of-line : goal.shape_of-line
shape_of-line c = c.loop-from.invariant.long

pub shape_of-counters : goal.shape_of-counters
shape_of-counters c = c.loop-from.invariant.kept.counters

pub shape_of-norms : goal.shape_of-norms
shape_of-norms c = c.loop-from.invariant.kept.norms

pub shape_of-entries : goal.shape_of-entries
shape_of-entries c = c.loop-from.invariant.kept.entries

pub shape_of-counts : goal.shape_of-counts
shape_of-counts c = c.loop-from.invariant.kept.counts

pub shape_of-out : goal.shape_of-out
shape_of-out c = c.loop-from.invariant.room

pub returns : goal.returns
returns c =
    let l = c.loop-from in
    let e = part_end c.args.chunk.now c.args.line.now c.args.held (here (goal.at.returns c).Start) c.args.out.now l.line (now-lent (goal.at.returns c).At-loop-from) l.out l.from l.n l.invariant c.loop-from-test.false in
    record {
      counts_value = e.0;
      line_after = e.1;
      held_le_most_held_2 = l.invariant.few;
    }
