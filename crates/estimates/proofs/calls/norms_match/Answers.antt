-- `estimates::calls::norms_match` meets its contract.
use Rattle.estimates.proofs.calls.norms_match.Goals as goal

pub returns : goal.returns
returns c = rw c.extent_of-e.ensures
