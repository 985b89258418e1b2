-- `ranks::step::close` meets its contract.
use native.Mathlib.Omega.{arith}
use Rattle.sums.specs.inner.Spaces.{space}
use Rattle.ranks.specs.inner.Step.{up_of}
use Rattle.ranks.proofs.Levels.{close_is}
use Rattle.ranks.proofs.step.close.Goals as goal

pub sum_level-requires : goal.sum_level-requires
sum_level-requires c =
    let w = c.requires.within in
    let k = c.cut-n.auto in
    let e = c.cut-n.ensures.upper_bound.0 in
    record {
      n_in_bounds = (omega (arith, e, w.bottoms, k.bottoms), omega (arith, e, w.counts, k.counts));
      bit_bound = c.requires.bit_bound;
    }

pub returns : goal.returns
returns c =
    let a = c.args in
    let s₀ = space a.keys.now a.bottoms.now a.counts.now in
    let s = space c.cut-n.new.keys c.cut-n.new.bottoms c.cut-n.new.counts in
    let v = c.sum_level in
    record {
      result_value = close_is a.ask a.place s₀ s (up_of s₀ a.below) a.all c.cut-n.result v.result c.cut-n.ensures.result_value (v.ensures.by_index c.cut-n.new.keys s₀);
      n_le_size = omega (arith, v.ensures.n_value, c.cut-n.ensures.upper_bound.1);
    }
