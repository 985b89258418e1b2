-- `state_lines::cells::read_cells` meets its contract.
use Prim.Native.Nat.{suc, ◌+◌, ◌-◌, ◌≤◌}
use lib.ListN.{drop}
use Rattle.state_forms.specs.Sparse.{sparse_r}
use Rattle.state_forms.specs.Grammar.{cell_listing}
use Rattle.state_lines.proofs.Readings.{CellsLeft}
use Rattle.state_lines.proofs.cells.read_cells.Given as goal

abbrev pub invariant-loop-c : goal.invariant-loop-c
invariant-loop-c l = (l.c ≤ l.cols) × CellsLeft (sparse_r cell_listing (suc l.cols) 0 l.cols (drop l.at l.s)) l.initial.cells l.base (drop l.p l.s) l.cols l.cells (l.base + l.c) l.c

abbrev pub decreases-loop-c : goal.decreases-loop-c
decreases-loop-c l = suc l.cols - l.c
