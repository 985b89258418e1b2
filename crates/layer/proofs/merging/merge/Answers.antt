-- `layer::merging::merge` meets its contract.
use native.Mathlib.Omega.{arith}
use Rattle.layer.proofs.Merges.{merge_is}
use Rattle.layer.proofs.merging.merge.Goals as goal

pub returns : goal.returns
returns c =
    let a = c.args in
    let t = merge_is a.d a.counters.now a.norms.now a.entries.now a.counts.now a.len a.other_counters.now a.other_entries.now a.other_len _ _ _ _ _ c.merge_candidates.result
    c.merge.ensures c.merge_candidates.ensures (omega (arith, c.requires.layer_merge_ready.housed.used, c.requires.layer_merge_ready.housed.seats)) in
    record {
      by_index = t.0;
      by_index_2 = t.1;
    }
