-- `univmon_indexed::judge::all_reach` meets its contract.
use Prim.Native.Nat.{ℕ}
use mathlib.Core.Path.{◌≡◌, refl, sym, ap, ◌∙◌}
use mathlib.Core.Bool.{Bool}
use lib.Dec.{leb}
use native.Mathlib.Omega.{arith}
use Rattle.header.specs.Header.{head_of}
use Rattle.layer_indexed.specs.inner.Needs.{grade_number}
use Rattle.layout.specs.Slices.{Lent, lent, view}
use Rattle.layout.specs.State.{layer_at, all_layers}
use Rattle.words.proofs.Scans.{scan_start, scan_on, scan_stop, scan_end}
use Rattle.layout.proofs.States.{layers-step, layers-none}
use Rattle.univmon_indexed.specs.inner.Needs.{reaches_at, grade_in}
use Rattle.univmon_indexed.proofs.Judging.{judge-one_in}
use Rattle.univmon_indexed.proofs.judge.all_reach.Goals as goal
use Rattle.univmon_indexed.proofs.judge.all_reach.Goals.{After-grade_at-here, Start}

-- the state that is lent
abbrev lent_of : Start → Lent
lent_of c = lent (head_of c.args.h c.args.lens.now c.args.flags.now) c.args.counters.now c.args.norms.now c.args.entries.now c.args.counts.now

abbrev tested : Start → ℕ → ℕ → Bool
tested c k i = let a = c.args in all_layers (reaches_at (grade_number a.grade) a.h.shape a.«record».now a.weight a.index.now) k i (view (lent_of c))

-- the grade is that of the state that was lent
graded : (c : After-grade_at-here) → let a = c.args in
    grade_number c.grade_at-here.result ≡ grade_in a.h.shape a.«record».now a.weight a.index.now c.loop-l.l (layer_at (view (lent_of (goal.at.After-grade_at-here c).Start)) c.loop-l.l)
graded c = let k = c.loop-l.invariant.1 in rw (k.0, k.1.0, k.1.1) at c.grade_at-here.ensures.value

pub loop-l-init : goal.loop-l-init
loop-l-init c = let a = c.args in (scan_start (tested (goal.at.loop-l-init c).Start) a.many a.first, (refl, (refl, refl)))

pub grade_at-here-requires : goal.grade_at-here-requires
grade_at-here-requires c =
    let a = c.args in
    let k = c.loop-l.invariant.1 in
    rw (k.0, k.1.0, k.1.1) (judge-one_in (lent_of (goal.at.grade_at-here-requires c).Start) a.index.now a.«record».now a.weight a.many a.first c.loop-l.l c.requires (omega arith))

pub returns-then-not-reaches : goal.returns-then-not-reaches
returns-then-not-reaches c =
    let a = c.args in
    let k = c.loop-l.invariant.1 in
    let e = c.grade_at-here.ensures.entries_unchanged in record {
      value = scan_stop (tested (goal.at.returns-then-not-reaches c).Start) a.many a.first c.loop-l.l _ c.loop-l.invariant.0 (omega arith) (λ k. layers-step _ (view (lent_of (goal.at.returns-then-not-reaches c).Start)) k c.loop-l.l)
          (ap (leb (grade_number a.grade)) (sym (graded (goal.at.returns-then-not-reaches c).After-grade_at-here)) ∙ sym c.reaches.ensures ∙ c.if-not-reaches.true);
      entries_unchanged = (e.0 ∙ k.0, (e.1.0 ∙ k.1.0, e.1.1 ∙ k.1.1));
    }

pub loop-l-preserved : goal.loop-l-preserved
loop-l-preserved c =
    let a = c.args in
    let k = c.loop-l.invariant.1 in
    let e = c.grade_at-here.ensures.entries_unchanged in (
      scan_on (tested (goal.at.loop-l-preserved c).Start) a.many a.first c.loop-l.l _ c.loop-l.invariant.0 (omega arith) (λ k. layers-step _ (view (lent_of (goal.at.loop-l-preserved c).Start)) k c.loop-l.l)
          (ap (leb (grade_number a.grade)) (sym (graded (goal.at.loop-l-preserved c).After-grade_at-here)) ∙ sym c.reaches.ensures ∙ c.if-not-reaches.false),
      (e.0 ∙ k.0, (e.1.0 ∙ k.1.0, e.1.1 ∙ k.1.1)),
    )

pub returns : goal.returns
returns c =
    let a = c.args in record {
      value = scan_end (tested (goal.at.returns c).Start) a.many a.first c.loop-l.l c.loop-l.invariant.0 (omega arith) (layers-none _ (view (lent_of (goal.at.returns c).Start)) c.loop-l.l);
      entries_unchanged = c.loop-l.invariant.1;
    }
