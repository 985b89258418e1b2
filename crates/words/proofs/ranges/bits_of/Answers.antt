-- `words::ranges::bits_of` meets its contract.
use Rattle.std.proofs.Common.{arith}
use Rattle.std.proofs.lemmas.Int.{ints}
use Rattle.words.specs.inner.Raised.{bits_of}
use Rattle.words.proofs.ranges.bits_of.Goals as goal

pub returns : goal.returns
unfolding bits_of
returns c = grind (arith, ints)
