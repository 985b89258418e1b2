-- `words::ranges::raised` meets its contract.
use Rattle.std.proofs.Common.{to_z-of_z}
use Rattle.words.specs.inner.Raised.{raised_of}
use Rattle.words.proofs.ranges.raised.Goals as goal

pub returns : goal.returns
unfolding raised_of
returns c = let e = rw (to_z-of_z c.ranges.x) at c.bits_of.ensures in rw e
