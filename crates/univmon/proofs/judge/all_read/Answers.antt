-- `univmon::judge::all_read` meets its contract.
use Prim.Native.Nat.{ℕ}
use mathlib.Core.Path.{sym, ◌∙◌}
use mathlib.Core.Bool.{Bool}
use native.Mathlib.Omega.{arith}
use Rattle.header.specs.Header.{head_of}
use Rattle.layout.specs.Slices.{lent, view, Lent}
use Rattle.words.proofs.Scans.{scan_start, scan_on, scan_stop, scan_end}
use Rattle.layout.specs.State.{all_layers}
use Rattle.univmon.specs.Updates.{reads_at}
use Rattle.layout.proofs.States.{layers-step, layers-none}
use Rattle.univmon.proofs.Judging.{judge-one}
use Rattle.univmon.proofs.judge.all_read.Goals as goal
use Rattle.univmon.proofs.judge.all_read.Goals.{Start}

-- the state that is lent, and the test of k of its layers from i on
abbrev lent_of : Start → Lent
lent_of c = lent (head_of c.args.h c.args.lens.now c.args.flags.now) c.args.counters.now c.args.norms.now c.args.entries.now c.args.counts.now

abbrev tested : ℕ → Start → ℕ → ℕ → Bool
tested w c k i = let a = c.args in all_layers (reads_at a.h.shape a.«record».now w) k i (view (lent_of c))

pub loop-l-init : goal.loop-l-init
loop-l-init c = λ w. let a = c.args in scan_start (tested w (goal.at.loop-l-init c).Start) a.many a.first

pub reads_at-requires : goal.reads_at-requires
reads_at-requires c = let a = c.args in judge-one (lent_of (goal.at.reads_at-requires c).Start) a.«record».now 0 a.many a.first c.loop-l.l c.requires (omega arith)

pub returns-then-not-reads_at : goal.returns-then-not-reads_at
returns-then-not-reads_at c = λ w.
    let a = c.args in
    scan_stop (tested w (goal.at.returns-then-not-reads_at c).Start) a.many a.first c.loop-l.l _ (c.loop-l.invariant w) (omega arith) (λ k. layers-step _ (view (lent_of (goal.at.returns-then-not-reads_at c).Start)) k c.loop-l.l) (sym (c.reads_at.ensures w) ∙ c.if-not-reads_at.true)

pub loop-l-preserved : goal.loop-l-preserved
loop-l-preserved c = λ w.
    let a = c.args in
    scan_on (tested w (goal.at.loop-l-preserved c).Start) a.many a.first c.loop-l.l _ (c.loop-l.invariant w) (omega arith) (λ k. layers-step _ (view (lent_of (goal.at.loop-l-preserved c).Start)) k c.loop-l.l) (sym (c.reads_at.ensures w) ∙ c.if-not-reads_at.false)

pub returns : goal.returns
returns c = λ w.
    let a = c.args in
    scan_end (tested w (goal.at.returns c).Start) a.many a.first c.loop-l.l (c.loop-l.invariant w) (omega arith) (layers-none _ (view (lent_of (goal.at.returns c).Start)) c.loop-l.l)
