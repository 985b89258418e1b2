-- `words::ranges::first_in_range` meets its contract.
use Rattle.std.proofs.Common.{rules}
use Rattle.words.proofs.Squares.{all_each}
use Rattle.words.proofs.ranges.first_in_range.Goals as goal

pub returns : goal.returns
returns c = all_each _ _ (search rules) (search rules)
