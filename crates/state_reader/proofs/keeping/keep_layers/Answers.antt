-- `state_reader::keeping::keep_layers` meets its contract.
use lib.ListN.{drop}
use Rattle.layout.specs.Slices.{Lent, lent}
use Rattle.state_reader.proofs.Keepings.{Keeping, keeping_start, keeping_inside, keeping_tier, keeping_legible, keeping_on, keeping_end}
use Rattle.state_reader.proofs.keeping.keep_layers.Goals as goal
use Rattle.state_reader.proofs.keeping.keep_layers.Goals.{At-loop-l, Start}

-- the state that was lent, and in the loop
abbrev lent_of : Start → Lent
lent_of c = lent c.args.h c.args.counters.now c.args.norms.now c.args.entries.now c.args.counts.now

abbrev lent-here : At-loop-l → Lent
lent-here c = lent c.loop-l.header c.loop-l.counters c.loop-l.norms c.loop-l.entries c.loop-l.counts

going : (c : At-loop-l) → Keeping (lent_of (goal.at.At-loop-l c).Start) c.requires.legible.value c.requires.legible.left (lent-here c) (drop c.loop-l.p c.args.s.now) c.loop-l.l
going c = c.loop-l.invariant c.requires.legible.value c.requires.legible.left c.requires.legible.reads

pub loop-l-init : goal.loop-l-init
loop-l-init c = λ ps t e. keeping_start (lent_of (goal.at.loop-l-init c).Start) ps t (drop c.args.at c.args.s.now) c.requires.one_tiered c.requires.standing e

pub keep_layer-k-requires : goal.keep_layer-k-requires
keep_layer-k-requires c =
    let v = going (goal.at.keep_layer-k-requires c).At-loop-l in
    record {
      one_tiered = keeping_tier v c.loop-l-test.true;
      standing = v.turn.standing;
      l_lt_layers = keeping_inside v c.loop-l-test.true;
      legible = keeping_legible v c.loop-l-test.true;
    }

pub loop-l-preserved : goal.loop-l-preserved
loop-l-preserved c =
    λ ps t e. keeping_on (c.loop-l.invariant ps t e) c.loop-l-test.true _ (drop c.keep_layer-k.result.at c.args.s.now) c.keep_layer-k.ensures.counts_value c.keep_layer-k.ensures.standing_2

pub returns : goal.returns
returns c = record {
  counts_value = λ ps t e. keeping_end (c.loop-l.invariant ps t e) c.loop-l-test.false;
  standing_2 = (going (goal.at.returns c).At-loop-l).turn.standing;
}
