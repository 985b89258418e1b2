-- `header::usual_tier` meets its contract.
use Rattle.header.proofs.Refusals.{rows-shaped}
use Rattle.header.proofs.usual_tier.Goals as goal

pub returns : goal.returns
returns c = rows-shaped c.args.rows c.args.cols
