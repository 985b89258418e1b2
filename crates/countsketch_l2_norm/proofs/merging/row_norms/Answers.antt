-- `countsketch_l2_norm::merging::row_norms` meets its contract.
use mathlib.Core.Path.{refl, ap, ◌∙◌}
use native.Mathlib.Omega.{arith}
use Rattle.countsketch_l2_norm.proofs.Places.{row_end}
use Rattle.countsketch_l2_norm.proofs.Merges.{norm_on, norm_end}
use Rattle.countsketch_l2_norm.specs.inner.Needs.{set_norm}
use Rattle.countsketch_l2_norm.proofs.merging.row_norms.Goals as goal

pub loop-r-init : goal.loop-r-init
loop-r-init c = record { low = omega arith; same = refl; done = λ k h. absurd (omega arith) }

pub row_norm-requires : goal.row_norm-requires
row_norm-requires c = record {
  r_lt_max_rows = (omega (arith, c.requires.shaped.few), c.requires.shaped.wide);
  cols_in_bounds = omega (arith, row_end c.loop-r.r c.args.rows c.args.cols c.loop-r-test.true, c.requires.cols_in_bounds.0);
}

pub put_norm-requires : goal.put_norm-requires
put_norm-requires c = (omega (arith, c.requires.shaped.few), omega (arith, c.requires.cols_in_bounds.1))

pub loop-r-preserved : goal.loop-r-preserved
loop-r-preserved c =
    let a = c.args in
    norm_on a.rows a.cols a.counters.now a.norms.now c.loop-r.norms c.loop-r.r _ c.loop-r.invariant c.loop-r-test.true c.requires.cols_in_bounds.1
    (c.put_norm.ensures ∙ ap (set_norm c.loop-r.norms c.loop-r.r) c.row_norm.ensures)

pub returns : goal.returns
returns c = let a = c.args in norm_end a.rows a.cols a.counters.now a.norms.now c.loop-r.norms c.loop-r.r c.loop-r.invariant c.loop-r-test.false
