-- `countsketch_l2_norm::merging::merge` meets its contract.
use mathlib.Core.Path.{◌≡◌, ap, ◌∙◌}
use mathlib.Core.List.{List}
use lib.ListN.{length}
use lib.IntN.{ℤ}
use native.Mathlib.Omega.{arith}
use Rattle.countsketch_l2_norm.proofs.Merges.{length-sums}
use Rattle.countsketch_l2_norm.specs.Norms.{norms_of}
use Rattle.countsketch_l2_norm.specs.Merge.{row_norms, sums}
use Rattle.countsketch_l2_norm.proofs.merging.merge.Goals as goal

pub row_norms-requires : goal.row_norms-requires
row_norms-requires c =
    let a = c.args in
    let l : length c.add_all.new.xs ≡ length a.counters.now = ap length c.add_all.ensures ∙ length-sums a.counters.now a.other.now c.requires.counters_len in
    record {
      shaped = c.requires.shaped;
      cols_in_bounds = (omega (arith, l, c.requires.cols_in_bounds.0), c.requires.cols_in_bounds.1);
    }

pub returns : goal.returns
returns c =
    let a = c.args in
    let e : c.add_all.new.xs ≡ sums a.counters.now a.other.now = c.add_all.ensures in
    let n : norms_of c.row_norms.new.norms a.rows ≡ row_norms a.cols (sums a.counters.now a.other.now) a.rows 0 = c.row_norms.ensures ∙ ap (λ (l : List ℤ). row_norms a.cols l a.rows 0) e in
    λ i. record { cells = e i; norms = n i }
