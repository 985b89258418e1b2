-- `univmon_indexed::lent::update_weighted_indexed_lent` meets its contract.
use mir.Facts.{to_z-of_z}
use Rattle.univmon_indexed.proofs.lent.update_weighted_indexed_lent.Goals as goal

pub returns : goal.returns
returns c =
    record {
      counts_value = rw (to_z-of_z c.ranges.weight) at c.update_lent.ensures.counts_value;
      index_after = rw (to_z-of_z c.ranges.weight) at c.update_lent.ensures.index_after;
      list_after = rw (to_z-of_z c.ranges.weight) at c.update_lent.ensures.list_after;
    }
