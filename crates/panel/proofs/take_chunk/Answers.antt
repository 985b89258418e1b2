-- `panel::take_chunk` meets its contract.
use native.Mathlib.Omega.{arith}
use Rattle.layout.specs.Slices.{Lent, lent}
use Rattle.panel.proofs.Chunked.{chunk_start, chunk_ended, chunk_open, chunk_end}
use Rattle.panel.proofs.take_chunk.Goals as goal
use Rattle.panel.proofs.take_chunk.Goals.{At-loop-at, Start}

-- the state that is lent
abbrev here : Start → Lent
here c = lent c.args.header c.args.counters.now c.args.norms.now c.args.entries.now c.args.counts.now

-- the state before the turn, and how far it has come
abbrev now-lent : At-loop-at → Lent
now-lent c = lent c.loop-at.head c.loop-at.counters c.loop-at.norms c.loop-at.entries c.loop-at.counts

pub loop-at-init : goal.loop-at-init
loop-at-init c = chunk_start c.args.chunk.now c.args.line.now c.args.held (here (goal.at.loop-at-init c).Start) c.args.out.now c.requires.held_le_most_held c.requires.longest_in_bounds

pub take_line-s-requires : goal.take_line-s-requires
take_line-s-requires c = let z = c.loop-at.invariant in record {
  at_in_bounds = omega (arith, z.inside, z.within);
  held_le_most_held = z.few;
  most_held_in_bounds = omega (arith, c.requires.most_held_in_bounds, z.long);
}

pub reply-t-requires : goal.reply-t-requires
reply-t-requires c =
    let z = c.loop-at.invariant in
    let t = c.take_line-s.ensures.held_le_most_held_2 in
    record {
      k_in_bounds = omega (arith, t.0, t.1.1.1, c.requires.most_held_in_bounds, z.long);
      longest_in_bounds = (z.spare c.loop-at-test.true).0;
    }

pub overflow_sub-out : goal.overflow_sub-out
overflow_sub-out c =
    let z = c.loop-at.invariant in
    omega (arith, (z.spare c.loop-at-test.true).0, c.reply-t.ensures.len_bound, c.reply-t.auto.out)

pub loop-at-smaller-then-out-len-lt-LONGEST : goal.loop-at-smaller-then-out-len-lt-LONGEST
loop-at-smaller-then-out-len-lt-LONGEST c = omega (arith, c.loop-at-test.true)

pub loop-at-preserved-then-out-len-lt-LONGEST : goal.loop-at-preserved-then-out-len-lt-LONGEST
loop-at-preserved-then-out-len-lt-LONGEST c =
    let l = c.loop-at in
    let k = c.reply-t.auto in
    chunk_ended c.args.chunk.now c.args.line.now c.args.held (here (goal.at.loop-at-preserved-then-out-len-lt-LONGEST c).Start) c.args.out.now l.line (now-lent (goal.at.loop-at-preserved-then-out-len-lt-LONGEST c).At-loop-at) l.out l.at l.end l.n l.len l.invariant
    _ c.take_line-s.result.held _ _ c.loop-at-test.true c.take_line-s.ensures.held_le_most_held_2.1.0 c.take_line-s.ensures.held_le_most_held_2.1.1.0 c.take_line-s.ensures.held_le_most_held_2.1.1.1 (rw c.if-s.true at c.take_line-s.ensures.ended_after)
    _ _ _ c.reply-t.ensures.out_after c.reply-t.ensures.len_bound k.out (record { counters = k.counters; norms = k.norms; entries = k.entries; counts = k.counts })
    (omega arith) c.take_line-s.ensures.held_le_most_held_2.1.1.0 (λ s. (omega (arith, s), omega (arith, s)))

pub loop-at-smaller-else-out-len-lt-LONGEST : goal.loop-at-smaller-else-out-len-lt-LONGEST
loop-at-smaller-else-out-len-lt-LONGEST c = omega (arith, c.take_line-s.ensures.held_le_most_held_2, c.loop-at-test.true, c.loop-at.invariant.within)

pub loop-at-preserved-else-out-len-lt-LONGEST : goal.loop-at-preserved-else-out-len-lt-LONGEST
loop-at-preserved-else-out-len-lt-LONGEST c =
    let l = c.loop-at in
    let k = c.reply-t.auto in
    let e = l.invariant.spare c.loop-at-test.true in
    chunk_ended c.args.chunk.now c.args.line.now c.args.held (here (goal.at.loop-at-preserved-else-out-len-lt-LONGEST c).Start) c.args.out.now l.line (now-lent (goal.at.loop-at-preserved-else-out-len-lt-LONGEST c).At-loop-at) l.out l.at l.end l.n l.len l.invariant
    _ c.take_line-s.result.held _ _ c.loop-at-test.true c.take_line-s.ensures.held_le_most_held_2.1.0 c.take_line-s.ensures.held_le_most_held_2.1.1.0 c.take_line-s.ensures.held_le_most_held_2.1.1.1 (rw c.if-s.true at c.take_line-s.ensures.ended_after)
    _ _ _ c.reply-t.ensures.out_after c.reply-t.ensures.len_bound k.out (record { counters = k.counters; norms = k.norms; entries = k.entries; counts = k.counts })
    (omega (arith, e.1, c.take_line-s.ensures.held_le_most_held_2.1.1.0)) l.invariant.within (λ _. (omega (arith, c.if-out-len-lt-LONGEST.false, c.reply-t.ensures.len_bound, e.0, k.out), e.1))

pub loop-at-smaller : goal.loop-at-smaller
loop-at-smaller c = omega (arith, c.take_line-s.ensures.held_le_most_held_2, c.loop-at-test.true, c.loop-at.invariant.within)

pub loop-at-preserved : goal.loop-at-preserved
loop-at-preserved c =
    let l = c.loop-at in
    chunk_open c.args.chunk.now c.args.line.now c.args.held (here (goal.at.loop-at-preserved c).Start) c.args.out.now l.line (now-lent (goal.at.loop-at-preserved c).At-loop-at) l.out l.at l.end l.n l.len l.invariant
    _ c.take_line-s.result.held _ c.loop-at-test.true c.take_line-s.ensures.held_le_most_held_2.1.1.0 c.take_line-s.ensures.held_le_most_held_2.0 c.take_line-s.ensures.held_le_most_held_2.1.1.1 (rw c.if-s.false at c.take_line-s.ensures.ended_after)

pub shape_of-line : goal.shape_of-line
shape_of-line c = c.loop-at.invariant.long

pub shape_of-counters : goal.shape_of-counters
shape_of-counters c = c.loop-at.invariant.kept.counters

pub shape_of-norms : goal.shape_of-norms
shape_of-norms c = c.loop-at.invariant.kept.norms

pub shape_of-entries : goal.shape_of-entries
shape_of-entries c = c.loop-at.invariant.kept.entries

pub shape_of-counts : goal.shape_of-counts
shape_of-counts c = c.loop-at.invariant.kept.counts

pub shape_of-out : goal.shape_of-out
shape_of-out c = c.loop-at.invariant.room

pub returns : goal.returns
returns c =
    let l = c.loop-at in
    let z = l.invariant in
    let e = chunk_end c.args.chunk.now c.args.line.now c.args.held (here (goal.at.returns c).Start) c.args.out.now l.line (now-lent (goal.at.returns c).At-loop-at) l.out l.at l.end l.n l.len z in
    record {
      out_after = e;
      line_after = z.rest;
      held_le_most_held_2 = (z.few, omega (arith, z.fits, z.room));
      chunk_bound = (omega (arith, z.moved, c.loop-at-test.false), omega (arith, z.inside, z.within));
    }
