-- `univmon_indexed::judge::all_reach` meets its contract.
use mathlib.Core.Path.{◌≡◌}
use Rattle.header.specs.Header.{head_of}
use Rattle.layer_indexed.specs.inner.Needs.{grade_number}
use Rattle.layout.specs.Slices.{lent, view}
use Rattle.layout.specs.State.{all_layers}
use Rattle.words.proofs.Scans.{Scan}
use Rattle.univmon_indexed.specs.inner.Needs.{reaches_at}
use Rattle.univmon_indexed.proofs.judge.all_reach.Given as goal

abbrev pub invariant-loop-l : goal.invariant-loop-l
invariant-loop-l l = Scan (λ k i. all_layers (reaches_at (grade_number l.grade) l.h.shape l.record l.weight l.initial.index) k i (view (lent (head_of l.h l.lens l.flags) l.counters l.norms l.initial.entries l.initial.counts))) l.many l.first l.l
    × ((l.entries ≡ l.initial.entries) × ((l.counts ≡ l.initial.counts) × (l.index ≡ l.initial.index)))
