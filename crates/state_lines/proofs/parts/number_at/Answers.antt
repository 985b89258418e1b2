-- `state_lines::parts::number_at` meets its contract.
use Rattle.std.proofs.Common.{◌∙◌, ap}
use Rattle.state_lines.specs.inner.Places.{value_spot}
use Rattle.state_lines.proofs.Spots.{number-spot}
use Rattle.state_lines.proofs.parts.number_at.Goals as goal

pub returns : goal.returns
returns c = ap (value_spot c.args.s.now) c.field.ensures ∙ number-spot c.args.stop c.requires c.args.s.now c.args.at
