-- `state_lines::cells::keep_none` meets its contract.
use Rattle.std.proofs.Common.{◌≡◌, ◌-◌, replicate, pos}
use Rattle.std.proofs.lemmas.List.Edits.{sets}
use Rattle.state_lines.proofs.cells.keep_none.Given as goal

abbrev pub invariant-loop-i : goal.invariant-loop-i
invariant-loop-i l = sets l.cells l.i (replicate (l.to - l.i) (pos 0)) ≡ sets l.initial.cells l.from (replicate (l.to - l.from) (pos 0))
