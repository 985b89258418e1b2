-- `header::Shape::usual` meets its contract.
use Rattle.header.proofs.Refusals.{usual-accepted}
use Rattle.header.proofs.Shape.usual.Goals as goal

pub returns : goal.returns
returns c = usual-accepted c.args.self c.usual_tier-elephants.result c.usual_tier-mice.result c.usual_tier-elephants.ensures c.usual_tier-mice.ensures
