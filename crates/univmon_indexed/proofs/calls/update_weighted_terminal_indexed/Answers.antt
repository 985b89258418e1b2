-- `univmon_indexed::calls::update_weighted_terminal_indexed` meets its contract.
use mir.Facts.{to_z-of_z}
use Rattle.univmon_indexed.proofs.calls.update_weighted_terminal_indexed.Goals as goal

pub returns : goal.returns
returns c =
    record {
      counts_value = rw (to_z-of_z c.ranges.weight) at c.update_held.ensures.counts_value;
      index_after = rw (to_z-of_z c.ranges.weight) at c.update_held.ensures.index_after;
      list_after = rw (to_z-of_z c.ranges.weight) at c.update_held.ensures.list_after;
    }
