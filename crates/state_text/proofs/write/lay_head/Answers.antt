-- `state_text::write::lay_head` meets its contract.
use Prim.Native.Nat.{◌+◌}
use mathlib.Core.Path.{◌≡◌}
use lib.ListN.{length}
use native.Mathlib.Omega.{arith}
use Rattle.text.specs.Words.{bytes_of}
use Rattle.state_forms.specs.Grammar.{num_line, head_format}
use Rattle.state_forms.proofs.Layings.{three_laid}
use Rattle.state_text.proofs.Bounds.{head-join, head-long}
use Rattle.state_text.proofs.write.lay_head.Goals as goal
use Rattle.state_text.proofs.write.lay_head.Goals.{Start}

sizes : (c : Start) → length ((num_line (bytes_of "(weight ") 0).write c.args.totals.weight) + length ((num_line (bytes_of "(updates ") 0).write c.args.totals.updates) + length ((num_line (bytes_of "(mode ") 0).write c.args.mode) ≡ length (head_format.write (c.args.totals.weight, (c.args.totals.updates, c.args.mode)))
sizes c = head-long c.args.totals.weight c.args.totals.updates c.args.mode

pub lay_line-a-requires : goal.lay_line-a-requires
lay_line-a-requires c = omega (arith, c.requires, sizes (goal.at.lay_line-a-requires c).Start)

pub lay_line-b-requires : goal.lay_line-b-requires
lay_line-b-requires c = omega (arith, c.requires, sizes (goal.at.lay_line-b-requires c).Start, c.lay_line-a.ensures.place)

pub lay_line-requires : goal.lay_line-requires
lay_line-requires c = omega (arith, c.requires, sizes (goal.at.lay_line-requires c).Start, c.lay_line-a.ensures.place, c.lay_line-b.ensures.place)

pub returns : goal.returns
returns c =
    three_laid (head_format.write (c.args.totals.weight, (c.args.totals.updates, c.args.mode))) (head-join c.args.totals.weight c.args.totals.updates c.args.mode) c.lay_line-a.ensures c.lay_line-b.ensures c.lay_line.ensures
