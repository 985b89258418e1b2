-- `state_lines::parts::signed_at` meets its contract.
use Rattle.std.proofs.Common.{◌∙◌, ap}
use Rattle.state_lines.specs.inner.Places.{value_spot}
use Rattle.state_lines.proofs.Spots.{signed-spot}
use Rattle.state_lines.proofs.parts.signed_at.Goals as goal

pub returns : goal.returns
returns c = ap (value_spot c.args.s.now) c.signed_field.ensures ∙ signed-spot c.args.stop c.requires c.args.s.now c.args.at
