-- `countsketch_l2_norm::merging::all_in` meets its contract.
use mathlib.Core.Path.{ap, ◌∙◌}
use lib.Seq.{take-length}
use Rattle.words.specs.Num.{all_in}
use native.Mathlib.Nat.{le_refl}
use Rattle.countsketch_l2_norm.proofs.merging.all_in.Goals as goal

pub first_in_range-requires : goal.first_in_range-requires
first_in_range-requires c = le_refl _

pub returns : goal.returns
returns c = c.first_in_range.ensures ∙ ap all_in (take-length c.args.cells.now)
