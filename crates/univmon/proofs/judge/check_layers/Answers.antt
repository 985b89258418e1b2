-- `univmon::judge::check_layers` meets its contract.
use mathlib.Core.Path.{sym, ◌∙◌}
use Rattle.header.specs.Header.{head_of}
use Rattle.layout.specs.Slices.{lent, view, Lent}
use Rattle.univmon.proofs.Judging.{judge-light, judged_ready, judged_unfit, judged_unread}
use Rattle.univmon.proofs.judge.check_layers.Goals as goal
use Rattle.univmon.proofs.judge.check_layers.Goals.{Start}

-- the state that is lent
abbrev lent_of : Start → Lent
lent_of c = lent (head_of c.args.h c.args.lens.now c.args.flags.now) c.args.counters.now c.args.norms.now c.args.entries.now c.args.counts.now

pub all_ready-requires : goal.all_ready-requires
all_ready-requires c = c.requires

pub returns-then-all_ready : goal.returns-then-all_ready
returns-then-all_ready c =
    let a = c.args in
    judged_ready a.h.shape a.«record».now a.weight a.many a.first (view (lent_of (goal.at.returns-then-all_ready c).Start)) (sym c.all_ready.ensures ∙ c.if-all_ready.true)

pub all_read-requires : goal.all_read-requires
all_read-requires c = let a = c.args in judge-light (lent_of (goal.at.all_read-requires c).Start) a.«record».now a.weight a.many a.first c.requires

pub returns-then-all_read : goal.returns-then-all_read
returns-then-all_read c =
    let a = c.args in
    judged_unfit a.h.shape a.«record».now a.weight a.many a.first (view (lent_of (goal.at.returns-then-all_read c).Start)) (sym c.all_ready.ensures ∙ c.if-all_ready.false) (sym (c.all_read.ensures a.weight) ∙ c.if-all_read.true)

pub returns : goal.returns
returns c =
    let a = c.args in
    judged_unread a.h.shape a.«record».now a.weight a.many a.first (view (lent_of (goal.at.returns c).Start)) (sym (c.all_read.ensures a.weight) ∙ c.if-all_read.false)
