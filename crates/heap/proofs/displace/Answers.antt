-- `heap::displace` meets its contract.
use mathlib.Core.Path.{refl}
use native.Mathlib.Omega.{arith}
use borrow.Author.Rules.{rules}
use mir.Facts.{to_z-of_z}
use Rattle.heap.proofs.Steps.{displace_yes, displace_no}
use Rattle.heap.proofs.displace.Goals as goal

pub returns-then-counts-v : goal.returns-then-counts-v
returns-then-counts-v c =
    displace_yes _ _ _ _ _ _ (to_z-of_z c.ranges.v) _ _ _ _ (omega arith) (search rules) c.if-counts-v.true refl
    c.put_cand.ensures c.bubble_down.ensures.counts_after

pub returns : goal.returns
returns c = displace_no _ _ _ _ _ _ (to_z-of_z c.ranges.v) (omega arith) (search rules) c.if-counts-v.false
