-- `ranks::step::sum_level` meets its contract.
use mathlib.Core.Path.{◌≡◌, sym, ◌∙◌}
use mathlib.Core.Bool.{◌&&◌}
use mathlib.Core.List.{[]}
use borrow.Author.Rules.{sfits_of}
use mir.Facts.{to_z-of_z}
use Rattle.sums.specs.inner.Spaces.{space}
use Rattle.sums.specs.Terms.{plus_zero}
use Rattle.sums.proofs.Views.{sum-keys}
use Rattle.ranks.specs.inner.Step.{up_of, rule_of}
use Rattle.ranks.proofs.Levels.{level_is}
use Rattle.ranks.proofs.step.sum_level.Goals as goal
use Rattle.ranks.proofs.step.sum_level.Goals.{Joined-below, then-below, else-below}

-- whether no flag fell so far, as the definition has it
whole-is : (c : Joined-below) → c.if-below.whole ≡ c.args.below.whole && c.args.place.flag
whole-is c =
    elim c.if-below.branch [
      | then-below w ↦ w.whole-is ∙ sym (rw w.if-below.true)
      | else-below w ↦ w.whole-is ∙ sym (rw w.if-below.false)
    ]

pub returns-clause-by_index : goal.returns-clause-by_index
returns-clause-by_index c =
    let a = c.args in
    let t = c.threshold_at-threshold.result in
    let x = rw (to_z-of_z (sfits_of c.threshold_at-threshold.type_inv)) at c.layer_sum-own.ensures in
    λ ks s₀. let s = space ks a.bottoms.now a.counts.now in
    level_is a.ask a.place s (up_of s₀ a.below) a.all a.n c.if-below.whole t c.layer_sum-own.result c.join-sum.result
    (whole-is (goal.at.returns-clause-by_index c).Joined-below) c.threshold_at-threshold.ensures (x ∙ sum-keys (rule_of a.ask a.place t) plus_zero s [] 0 a.n) c.join-sum.ensures
