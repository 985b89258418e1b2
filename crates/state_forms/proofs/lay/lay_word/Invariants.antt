-- `state_forms::lay::lay_word` meets its contract.
use Rattle.std.proofs.Common.{drop}
use Rattle.state_forms.proofs.Layings.{LaidSoFar}
use Rattle.state_forms.proofs.lay.lay_word.Given as goal

abbrev pub invariant-loop-b : goal.invariant-loop-b
invariant-loop-b l = LaidSoFar l.initial.out l.at l.word l.out l.p (drop l.b-index l.word)
