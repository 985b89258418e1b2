-- `leaves_test::median` meets its contract.
use Rattle.std.proofs.Common.{◌≡◌, ◌≤◌, true, length, take}
use Rattle.words.specs.Num.{all_in}
use Rattle.matrix_storage.specs.Bits.{max_rows}
use Rattle.leaves_test.proofs.median.Given as goal

-- the first n are in range
abbrev pub invariant-loop-k : goal.invariant-loop-k
invariant-loop-k l = record { few : l.n ≤ max_rows; long : length l.buf ≡ max_rows; ranged : all_in (take l.n l.buf) ≡ true }
