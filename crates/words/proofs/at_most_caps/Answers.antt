-- `words::at_most_caps` meets its contract.
use Rattle.std.proofs.Common.{arith}
use Rattle.std.proofs.lemmas.Grind.{common_steps}
use Rattle.words.specs.Wide.{two_words}
use Rattle.words.proofs.at_most_caps.Goals as goal

pub returns-then-hi-cols : goal.returns-then-hi-cols
unfolding two_words
returns-then-hi-cols c = grind (arith, common_steps)

pub returns-then-cols-hi : goal.returns-then-cols-hi
unfolding two_words
returns-then-cols-hi c = grind (arith, common_steps)

pub returns : goal.returns
unfolding two_words
returns c = grind (arith, common_steps)
