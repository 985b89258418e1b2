-- `state_check::rows::row_ok` meets its contract.
use Prim.Native.Nat.{◌*◌, ◌<◌}
use Rattle.words.specs.Num.{word_size}
use Rattle.words.specs.Wide.{value_of}
use Rattle.state_check.proofs.RowSums.{Summing}
use Rattle.state_check.proofs.rows.row_ok.Given as goal

abbrev pub invariant-loop-x : goal.invariant-loop-x
invariant-loop-x l = record { sums : Summing l.counters (l.r * l.cols) l.cols l.x-index (value_of l.sum); low_word : l.sum.lo < word_size }
