-- `state_forms::keys::lay_keys` meets its contract.
use lib.ListN.{take, drop}
use Rattle.heap_moves.specs.Flat.{cands_of}
use Rattle.state_forms.specs.Grammar.{keys_text}
use Rattle.state_forms.proofs.Layings.{LaidSoFar}
use Rattle.state_forms.proofs.keys.lay_keys.Given as goal

abbrev pub invariant-loop-i : goal.invariant-loop-i
invariant-loop-i l = LaidSoFar l.initial.out l.at (keys_text l.l (take l.len (cands_of l.entries l.counts))) l.out l.p (keys_text l.l (drop l.i (take l.len (cands_of l.entries l.counts))))
