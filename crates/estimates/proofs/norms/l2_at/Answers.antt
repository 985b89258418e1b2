-- `estimates::norms::l2_at` meets its contract.
use mathlib.Core.Path.{ap, ◌∙◌}
use Rattle.countsketch_l2_norm.specs.L2.{l2_of}
use Rattle.float64.specs.Root.{root}
use Rattle.estimates.proofs.norms.l2_at.Goals as goal

pub returns : goal.returns
unfolding l2_of
returns c = c.sqrt.ensures ∙ ap root c.squared_at.ensures
