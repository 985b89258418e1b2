-- `univmon::update::send` meets its contract.
use mathlib.Core.Path.{◌∙◌}
use native.Mathlib.Omega.{arith}
use Rattle.header.specs.Header.{head_of, Headed}
use Rattle.layout.specs.Slices.{lent, Lent}
use Rattle.univmon.proofs.Sending.{sending_start, sending_ready, sending_room, sending_on, sending_end}
use Rattle.univmon.proofs.update.send.Goals as goal
use Rattle.univmon.proofs.update.send.Goals.{After-counts-1, At-loop-l, Start}

-- the state that was lent, and the state in the loop
abbrev lent_of : Start → Lent
lent_of c = lent (head_of c.args.h c.args.lens.now c.args.flags.now) c.args.counters.now c.args.norms.now c.args.entries.now c.args.counts.now

abbrev lent-here : At-loop-l → Lent
lent-here c = lent (head_of c.args.h c.loop-l.lens c.loop-l.flags) c.loop-l.counters c.loop-l.norms c.loop-l.entries c.loop-l.counts

-- lengths and flags keep their places
headed-on : (c : After-counts-1) → Headed (head_of c.args.h c.send_one.new.lens c.send_one.new.flags)
headed-on c = let v = c.loop-l.invariant.headed in record { lens = c.send_one.auto.lens ∙ v.lens; flags = c.send_one.auto.flags ∙ v.flags }

pub loop-l-init : goal.loop-l-init
loop-l-init c = let a = c.args in sending_start (lent_of (goal.at.loop-l-init c).Start) a.«record».now a.weight a.many a.first c.requires.sends_ready a.list.now

pub send_one-requires : goal.send_one-requires
send_one-requires c =
    let a = c.args in record {
      send_ready = sending_ready (lent_of (goal.at.send_one-requires c).Start) a.«record».now a.weight a.many a.first c.requires.sends_ready a.list.now (lent-here (goal.at.send_one-requires c).At-loop-l) c.loop-l.list c.loop-l.l c.loop-l.invariant (omega arith);
      l_in_bounds = sending_room (lent_of (goal.at.send_one-requires c).Start) a.«record».now a.weight a.many a.first c.requires.sends_ready a.list.now (lent-here (goal.at.send_one-requires c).At-loop-l) c.loop-l.list c.loop-l.l c.loop-l.invariant (omega arith) c.requires.layers_in_bounds;
    }

pub loop-l-preserved : goal.loop-l-preserved
loop-l-preserved c =
    let a = c.args in
    sending_on (lent_of (goal.at.loop-l-preserved c).Start) a.«record».now a.weight a.many a.first c.requires.sends_ready a.list.now (lent-here (goal.at.loop-l-preserved c).At-loop-l) c.loop-l.list c.loop-l.l c.loop-l.invariant (omega arith) _ _ c.requires.layers_in_bounds
    c.send_one.ensures (headed-on (goal.at.loop-l-preserved c).After-counts-1)

pub returns : goal.returns
returns c =
    let a = c.args in
    sending_end (lent_of (goal.at.returns c).Start) a.«record».now a.weight a.many a.first c.requires.sends_ready a.list.now (lent-here (goal.at.returns c).At-loop-l) c.loop-l.list c.loop-l.l c.loop-l.invariant (omega arith)
