-- `sums::g_of` meets its contract.
use mir.Facts.{to_z-of_z}
use Rattle.sums.specs.Terms.{g_of}
use Rattle.sums.proofs.g_of.Goals as goal

pub returns-in-One : goal.returns-in-One
unfolding g_of
returns-in-One c = rw c.in-One.is

pub returns-in-Value : goal.returns-in-Value
unfolding g_of
returns-in-Value c = rw (c.count_to_f64.ensures, to_z-of_z c.ranges.count, c.in-Value.is)

pub returns-in-Square : goal.returns-in-Square
unfolding g_of
returns-in-Square c = rw (c.count_to_f64-x.ensures, to_z-of_z c.ranges.count, c.in-Square.is)
