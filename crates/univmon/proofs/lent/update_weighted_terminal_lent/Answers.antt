-- `univmon::lent::update_weighted_terminal_lent` meets its contract.
use mir.Facts.{to_z-of_z}
use Rattle.univmon.proofs.lent.update_weighted_terminal_lent.Goals as goal

pub returns : goal.returns
returns c = record {
  counts_value = rw (to_z-of_z c.ranges.weight) at c.update_lent.ensures.counts_value;
  list_after = rw (to_z-of_z c.ranges.weight) at c.update_lent.ensures.list_after;
}
