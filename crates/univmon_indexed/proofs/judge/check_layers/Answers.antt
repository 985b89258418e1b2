-- `univmon_indexed::judge::check_layers` meets its contract.
use Prim.Native.Nat.{ℕ}
use mathlib.Core.Path.{◌≡◌, sym, ◌∙◌}
use mathlib.Core.Bool.{Bool, true}
use Rattle.header.specs.Header.{head_of}
use Rattle.layout.specs.Slices.{Lent, lent, view}
use Rattle.layout.specs.State.{all_layers}
use Rattle.univmon_indexed.specs.inner.Needs.{reaches_at}
use Rattle.univmon_indexed.proofs.Grades.{judged_unread, judged_unfit, judged_unmoved, judged_fine}
use Rattle.univmon_indexed.proofs.judge.check_layers.Goals as goal
use Rattle.univmon_indexed.proofs.judge.check_layers.Goals.{After-all_reach, After-all_reach-2, After-all_reach-3, Else-not-all_reach, Else-not-all_reach-2, Start}

-- the state that is lent, and whether its layers come so far
abbrev lent_of : Start → Lent
lent_of c = lent (head_of c.args.h c.args.lens.now c.args.flags.now) c.args.counters.now c.args.norms.now c.args.entries.now c.args.counts.now

abbrev reach : ℕ → Start → Bool
reach g c = let a = c.args in all_layers (reaches_at g a.h.shape a.«record».now a.weight a.index.now) a.many a.first (view (lent_of c))

reach-two : (c : After-all_reach) → c.all_reach.result ≡ reach 2 (goal.at.After-all_reach c).Start
reach-two c = c.all_reach.ensures.value

two : (c : Else-not-all_reach) → reach 2 (goal.at.Else-not-all_reach c).Start ≡ true
two c = sym (reach-two (goal.at.Else-not-all_reach c).After-all_reach) ∙ c.if-not-all_reach.false

reach_three : (c : After-all_reach-2) → c.all_reach-2.result ≡ reach 3 (goal.at.After-all_reach-2 c).Start
reach_three c = let k = c.all_reach.ensures.entries_unchanged in rw (k.0, k.1.0, k.1.1) at c.all_reach-2.ensures.value

three : (c : Else-not-all_reach-2) → reach 3 (goal.at.Else-not-all_reach-2 c).Start ≡ true
three c = sym (reach_three (goal.at.Else-not-all_reach-2 c).After-all_reach-2) ∙ c.if-not-all_reach-2.false

reach_four : (c : After-all_reach-3) → c.all_reach-3.result ≡ reach 4 (goal.at.After-all_reach-3 c).Start
reach_four c =
    let k = c.all_reach.ensures.entries_unchanged in
    let e = c.all_reach-2.ensures.entries_unchanged in
    rw (e.0 ∙ k.0, e.1.0 ∙ k.1.0, e.1.1 ∙ k.1.1) at c.all_reach-3.ensures.value

pub all_reach-requires : goal.all_reach-requires
all_reach-requires c = c.requires

pub returns-then-not-all_reach : goal.returns-then-not-all_reach
returns-then-not-all_reach c =
    let a = c.args in record {
      value = judged_unread a.h.shape a.«record».now a.weight a.index.now a.many a.first (view (lent_of (goal.at.returns-then-not-all_reach c).Start)) (sym (reach-two (goal.at.returns-then-not-all_reach c).After-all_reach) ∙ c.if-not-all_reach.true);
      entries_unchanged = c.all_reach.ensures.entries_unchanged;
    }

pub all_reach-requires-2 : goal.all_reach-requires-2
all_reach-requires-2 c = let k = c.all_reach.ensures.entries_unchanged in rw (k.0, k.1.0, k.1.1) c.requires

pub returns-then-not-all_reach-2 : goal.returns-then-not-all_reach-2
returns-then-not-all_reach-2 c =
    let a = c.args in
    let k = c.all_reach.ensures.entries_unchanged in
    let e = c.all_reach-2.ensures.entries_unchanged in record {
      value = judged_unfit a.h.shape a.«record».now a.weight a.index.now a.many a.first (view (lent_of (goal.at.returns-then-not-all_reach-2 c).Start)) (two (goal.at.returns-then-not-all_reach-2 c).Else-not-all_reach) (sym (reach_three (goal.at.returns-then-not-all_reach-2 c).After-all_reach-2) ∙ c.if-not-all_reach-2.true);
      entries_unchanged = (e.0 ∙ k.0, (e.1.0 ∙ k.1.0, e.1.1 ∙ k.1.1));
    }

pub all_reach-requires-3 : goal.all_reach-requires-3
all_reach-requires-3 c =
    let k = c.all_reach.ensures.entries_unchanged in
    let e = c.all_reach-2.ensures.entries_unchanged in
    rw (e.0 ∙ k.0, e.1.0 ∙ k.1.0, e.1.1 ∙ k.1.1) c.requires

pub returns-then-not-all_reach-3 : goal.returns-then-not-all_reach-3
returns-then-not-all_reach-3 c =
    let a = c.args in
    let k = c.all_reach.ensures.entries_unchanged in
    let e = c.all_reach-2.ensures.entries_unchanged in
    let f = c.all_reach-3.ensures.entries_unchanged in record {
      value = judged_unmoved a.h.shape a.«record».now a.weight a.index.now a.many a.first (view (lent_of (goal.at.returns-then-not-all_reach-3 c).Start)) (two (goal.at.returns-then-not-all_reach-3 c).Else-not-all_reach) (three (goal.at.returns-then-not-all_reach-3 c).Else-not-all_reach-2) (sym (reach_four (goal.at.returns-then-not-all_reach-3 c).After-all_reach-3) ∙ c.if-not-all_reach-3.true);
      entries_unchanged = (f.0 ∙ e.0 ∙ k.0, (f.1.0 ∙ e.1.0 ∙ k.1.0, f.1.1 ∙ e.1.1 ∙ k.1.1));
    }

pub returns : goal.returns
returns c =
    let a = c.args in
    let k = c.all_reach.ensures.entries_unchanged in
    let e = c.all_reach-2.ensures.entries_unchanged in
    let f = c.all_reach-3.ensures.entries_unchanged in record {
      value = judged_fine a.h.shape a.«record».now a.weight a.index.now a.many a.first (view (lent_of (goal.at.returns c).Start)) (sym (reach_four (goal.at.returns c).After-all_reach-3) ∙ c.if-not-all_reach-3.false);
      entries_unchanged = (f.0 ∙ e.0 ∙ k.0, (f.1.0 ∙ e.1.0 ∙ k.1.0, f.1.1 ∙ e.1.1 ∙ k.1.1));
    }
