-- `state_forms::cells::lay_cells` meets its contract.
use lib.ListN.{drop}
use Rattle.state_forms.specs.Sparse.{sparse_text}
use Rattle.state_forms.specs.Grammar.{cell_listing}
use Rattle.state_forms.proofs.Layings.{LaidSoFar}
use Rattle.state_forms.proofs.cells.lay_cells.Given as goal

abbrev pub invariant-loop-c : goal.invariant-loop-c
invariant-loop-c l = LaidSoFar l.initial.out l.at (sparse_text cell_listing 0 l.cells) l.out l.p (sparse_text cell_listing l.c (drop l.c l.cells))
