-- `state_text::write::lay_line` meets its contract.
use Prim.Native.Nat.{◌+◌}
use mathlib.Core.Path.{◌≡◌}
use lib.ListN.{length}
use native.Mathlib.Omega.{arith}
use Rattle.state_forms.specs.Formats.{num}
use Rattle.state_forms.specs.Grammar.{num_line}
use Rattle.state_forms.proofs.Layings.{three_laid}
use Rattle.state_text.proofs.Bounds.{line-join, line-long}
use Rattle.state_text.proofs.write.lay_line.Goals as goal
use Rattle.state_text.proofs.write.lay_line.Goals.{Start}

sizes : (c : Start) → length c.args.word.now + length ((num 41).write c.args.n) + 1 ≡ length ((num_line c.args.word.now 0).write c.args.n)
sizes c = line-long c.args.word.now c.args.n

pub lay_word-a-requires : goal.lay_word-a-requires
lay_word-a-requires c = omega (arith, c.requires, sizes (goal.at.lay_word-a-requires c).Start)

pub lay_number-b-requires : goal.lay_number-b-requires
lay_number-b-requires c = omega (arith, c.requires, sizes (goal.at.lay_number-b-requires c).Start, c.lay_word-a.ensures.place)

pub lay_word-requires : goal.lay_word-requires
lay_word-requires c = omega (arith, c.requires, sizes (goal.at.lay_word-requires c).Start, c.lay_word-a.ensures.place, c.lay_number-b.ensures.place)

pub returns : goal.returns
returns c = three_laid ((num_line c.args.word.now 0).write c.args.n) (line-join c.args.word.now 0 c.args.n) c.lay_word-a.ensures c.lay_number-b.ensures c.lay_word.ensures
