-- `estimates::calls::norms_lent` meets its contract.
use mathlib.Core.Path.{sym, ◌∙◌}
use Rattle.header.proofs.Ranges.{ranged_of}
use Rattle.estimates.proofs.calls.norms_lent.Goals as goal

pub norms_match-requires : goal.norms_match-requires
norms_match-requires c = (ranged_of c.args.header (sym c.in_range.ensures ∙ c.if-in_range.true)).accepted
