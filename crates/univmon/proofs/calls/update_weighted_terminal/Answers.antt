-- `univmon::calls::update_weighted_terminal` meets its contract.
use mir.Facts.{to_z-of_z}
use Rattle.univmon.proofs.calls.update_weighted_terminal.Goals as goal

pub returns : goal.returns
returns c = record {
  counts_value = rw (to_z-of_z c.ranges.weight) at c.update_held.ensures.counts_value;
  list_after = rw (to_z-of_z c.ranges.weight) at c.update_held.ensures.list_after;
}
