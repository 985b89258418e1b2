-- `estimates::anew::sum_anew` meets its contract.
use Rattle.sums.proofs.Views.{Summing}
use Rattle.estimates.specs.inner.Anew.{entry_at}
use Rattle.estimates.proofs.anew.sum_anew.Given as goal

abbrev pub invariant-loop-i : goal.invariant-loop-i
invariant-loop-i l = Summing l.rule (entry_at l.layer) l.layer.len l.acc l.i
