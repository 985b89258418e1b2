-- `ranks::blocks::eight_other` meets its contract.
use mathlib.Core.Path.{ap₂}
use mathlib.Core.Bool.{Bool, ◌&&◌}
use Rattle.ranks.proofs.blocks.eight_other.Goals as goal

pub returns : goal.returns
returns c = ap₂ (λ (x y : Bool). x && y) c.four_other-p.ensures c.four_other-q.ensures
