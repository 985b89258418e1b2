-- `ranks::step::cut` meets its contract.
use Rattle.std.proofs.Common.{arith}
use Rattle.sums.specs.inner.Spaces.{space}
use Rattle.ranks.proofs.Levels.{cut_is}
use Rattle.ranks.proofs.step.cut.Goals as goal

pub returns-clause-result_value : goal.returns-clause-result_value
returns-clause-result_value c =
    let a = c.args in
    let s₀ = space a.keys.now a.bottoms.now a.counts.now in
    let s = space c.rank.new.keys c.rank.new.bottoms c.rank.new.counts in
    let m = c.min.ensures in
    cut_is s s₀ a.all a.size c.min.result c.rank.ensures (λ h. omega (arith, h)) (λ h. omega (arith, h))
