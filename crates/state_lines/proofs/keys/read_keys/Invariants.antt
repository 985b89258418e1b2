-- `state_lines::keys::read_keys` meets its contract.
use Prim.Native.Nat.{◌-◌}
use lib.ListN.{drop}
use Rattle.heap_moves.specs.Flat.{cands_of}
use Rattle.state_forms.specs.Grammar.{keys_r}
use Rattle.state_lines.proofs.Walks.{Walk}
use Rattle.state_lines.proofs.KeyWalk.{same}
use Rattle.state_lines.proofs.keys.read_keys.Given as goal

abbrev pub invariant-loop-i : goal.invariant-loop-i
invariant-loop-i l = Walk same (keys_r l.l l.size (drop l.at l.s)) (cands_of l.initial.entries l.initial.counts) 0 (keys_r l.l (l.size - l.i) (drop l.p l.s)) (cands_of l.entries l.counts) l.i l.i
