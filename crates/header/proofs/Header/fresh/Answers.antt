-- `header::Header::fresh` meets its contract.
use Rattle.header.specs.Header.{fresh_header}
use Rattle.header.proofs.Header.fresh.Goals as goal

pub returns : goal.returns
unfolding fresh_header
returns c = simp (c.fresh_flags.ensures, c.zero.ensures)
