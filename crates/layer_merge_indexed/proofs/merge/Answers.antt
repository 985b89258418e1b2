-- `layer_merge_indexed::merge` meets its contract.
use Prim.Native.Nat.{◌≤◌}
use lib.ListN.{length}
use native.Mathlib.Omega.{arith}
use Rattle.layer.proofs.Merges.{merge_is}
use Rattle.layer_merge_indexed.proofs.Merges.{index_is}
use Rattle.layer_merge_indexed.proofs.merge.Goals as goal

pub returns : goal.returns
returns c =
    let a = c.args in
    let fits : a.len ≤ length a.counts.now = omega (arith, c.requires.layer_merge_ready.housed.used, c.requires.layer_merge_ready.housed.seats) in
    let m =
    merge_is a.d a.counters.now a.norms.now a.entries.now a.counts.now a.len a.other_counters.now a.other_entries.now a.other_len _ _ _ _ _ c.merge_candidates.result
    c.merge.ensures c.merge_candidates.ensures.result_value fits in record {
      by_index = m.0;
      by_index_2 = m.1;
      by_index_3 = index_is a.d a.counters.now a.norms.now a.entries.now a.counts.now a.len a.other_counters.now a.other_entries.now a.other_len _ _ _ c.merge.ensures
          c.merge_candidates.ensures.index_after fits;
    }
