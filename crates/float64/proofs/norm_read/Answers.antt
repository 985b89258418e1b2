-- `float64::norm_read` meets its contract.
use Rattle.std.proofs.Common.{ℕ, false, ap, ◌∙◌}
use lib.Ieee.{binary64, round}
use Rattle.float64.specs.Norm.{norm_read}
use Rattle.float64.proofs.norm_read.Goals as goal

pub returns : goal.returns
unfolding norm_read
returns c = c.norm_to_f64.ensures ∙ ap (λ (n : ℕ). round binary64 false n 1) c.norm_clamped.ensures
