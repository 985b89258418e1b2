-- `header::Totals::plus` meets its contract.
use mathlib.Core.Path.{refl}
use native.Mathlib.Omega.{arith}
use Rattle.header.specs.Totals.{add_totals, totals_tests}
use Rattle.words.proofs.Tests.{off_number}
use Rattle.header.proofs.Bounds.{Within, totals_within}
use Rattle.header.proofs.Totals.plus.Goals as goal
use Rattle.header.proofs.Totals.plus.Goals.{Start}

-- both sums are at most 2^52
small : (c : Start) → Within (add_totals c.args.self c.args.more)
small c = totals_within c.args.self c.args.more (off_number (totals_tests c.args.self c.args.more) refl c.requires)

pub overflow_add-result : goal.overflow_add-result
overflow_add-result c = record { fits = omega (arith, (small (goal.at.overflow_add-result c).Start).light) }

pub overflow_add-result-2 : goal.overflow_add-result-2
overflow_add-result-2 c = record { fits = omega (arith, (small (goal.at.overflow_add-result-2 c).Start).few) }
