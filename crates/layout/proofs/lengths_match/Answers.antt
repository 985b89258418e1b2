-- `layout::lengths_match` meets its contract.
use Rattle.header.proofs.Sweeps.{and_assoc}
use Rattle.layout.specs.Slices.{lengths_ok}
use Rattle.layout.proofs.lengths_match.Goals as goal

pub returns : goal.returns
unfolding lengths_ok
returns c = simp (c.eq.ensures, c.extent_of.ensures, and_assoc)
