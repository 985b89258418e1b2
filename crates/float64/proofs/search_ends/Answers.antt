-- `float64::search_ends` meets its contract.
use Rattle.std.proofs.Common.{refl}
use Rattle.float64.proofs.search_ends.Goals as goal

pub returns : goal.returns
returns c = refl
