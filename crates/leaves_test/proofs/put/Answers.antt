-- `leaves_test::put` meets its contract.
use mathlib.Core.Path.{◌≡◌, sym, ◌∙◌}
use mathlib.Core.Bool.{true}
use lib.ListN.{take}
use mir.Facts.{to_z-of_z}
use Rattle.words.specs.Num.{in_range}
use Rattle.structure_utils.proofs.Sorting.{all-bubble}
use Rattle.leaves_test.proofs.put.Goals as goal
use Rattle.leaves_test.proofs.put.Goals.{Else-not-in_range}

-- the value was found in range
ranged : (c : Else-not-in_range) → in_range c.args.v ≡ true
ranged c = sym (rw (to_z-of_z c.ranges.v) at c.in_range.ensures) ∙ c.if-not-in_range.false

pub returns-clause-buf_after : goal.returns-clause-buf_after
returns-clause-buf_after c =
    rw (rw (to_z-of_z c.ranges.v) at c.insert.ensures.buf_after) (all-bubble c.args.v (take c.args.n c.args.buf.now) (ranged (goal.at.returns-clause-buf_after c).Else-not-in_range) c.requires.buf_value)
