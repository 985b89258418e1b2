-- `ranks::blocks::front_other` meets its contract.
use Rattle.std.proofs.Common.{◌*◌}
use Rattle.words.proofs.Missed.{Missed}
use Rattle.ranks.proofs.Gathers.{key_at}
use Rattle.ranks.proofs.blocks.front_other.Given as goal

abbrev pub invariant-loop-eight : goal.invariant-loop-eight
invariant-loop-eight l = Missed (key_at l.keys) l.key (8 * l.eight)
