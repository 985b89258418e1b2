-- `univmon::judge::all_ready` meets its contract.
use Prim.Native.Nat.{ℕ}
use mathlib.Core.Path.{sym, ◌∙◌}
use mathlib.Core.Bool.{Bool}
use native.Mathlib.Omega.{arith}
use Rattle.header.specs.Header.{head_of}
use Rattle.layout.specs.Slices.{lent, view, Lent}
use Rattle.univmon.specs.inner.Needs.{ready_at}
use Rattle.words.proofs.Scans.{scan_start, scan_on, scan_stop, scan_end}
use Rattle.layout.specs.State.{all_layers}
use Rattle.layout.proofs.States.{layers-step, layers-none}
use Rattle.univmon.proofs.Judging.{judge-one}
use Rattle.univmon.proofs.judge.all_ready.Goals as goal
use Rattle.univmon.proofs.judge.all_ready.Goals.{Start}

-- the state that is lent, and the test of k of its layers from i on
abbrev lent_of : Start → Lent
lent_of c = lent (head_of c.args.h c.args.lens.now c.args.flags.now) c.args.counters.now c.args.norms.now c.args.entries.now c.args.counts.now

abbrev tested : Start → ℕ → ℕ → Bool
tested c k i = let a = c.args in all_layers (ready_at a.h.shape a.«record».now a.weight) k i (view (lent_of c))

pub loop-l-init : goal.loop-l-init
loop-l-init c = let a = c.args in scan_start (tested (goal.at.loop-l-init c).Start) a.many a.first

pub ready_at-requires : goal.ready_at-requires
ready_at-requires c = let a = c.args in judge-one (lent_of (goal.at.ready_at-requires c).Start) a.«record».now a.weight a.many a.first c.loop-l.l c.requires (omega arith)

pub returns-then-not-ready_at : goal.returns-then-not-ready_at
returns-then-not-ready_at c =
    let a = c.args in
    scan_stop (tested (goal.at.returns-then-not-ready_at c).Start) a.many a.first c.loop-l.l _ c.loop-l.invariant (omega arith) (λ k. layers-step _ (view (lent_of (goal.at.returns-then-not-ready_at c).Start)) k c.loop-l.l) (sym c.ready_at.ensures ∙ c.if-not-ready_at.true)

pub loop-l-preserved : goal.loop-l-preserved
loop-l-preserved c =
    let a = c.args in
    scan_on (tested (goal.at.loop-l-preserved c).Start) a.many a.first c.loop-l.l _ c.loop-l.invariant (omega arith) (λ k. layers-step _ (view (lent_of (goal.at.loop-l-preserved c).Start)) k c.loop-l.l) (sym c.ready_at.ensures ∙ c.if-not-ready_at.false)

pub returns : goal.returns
returns c =
    let a = c.args in
    scan_end (tested (goal.at.returns c).Start) a.many a.first c.loop-l.l c.loop-l.invariant (omega arith) (layers-none _ (view (lent_of (goal.at.returns c).Start)) c.loop-l.l)
