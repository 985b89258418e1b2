-- `lines_test::main` meets its contract.
use Rattle.std.proofs.Common.{◌≤◌}
use Rattle.panel_lines.specs.Split.{most_held}
use Rattle.lines_test.proofs.main.Given as goal

abbrev pub invariant-loop : goal.invariant-loop
invariant-loop l = l.held ≤ most_held
