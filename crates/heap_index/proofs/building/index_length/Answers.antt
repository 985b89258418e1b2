-- `heap_index::building::index_length` meets its contract.
use Rattle.heap_index.proofs.Scanned.{length_power}
use Rattle.heap_index.proofs.building.index_length.Goals as goal

pub returns : goal.returns
returns c =
    let p = c.next_power_of_two.ensures in
    length_power c.args.size _ c.requires p.power p.lower_bound p.upper_bound
