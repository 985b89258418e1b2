-- `estimates::terminal::terminal_sum` meets its contract.
use Prim.Native.Nat.{◌-◌, ◌≤◌}
use mathlib.Core.Path.{◌≡◌}
use Rattle.header.specs.Shape.{max_heap}
use Rattle.layout.specs.Slices.{view}
use Rattle.layout.specs.Lending.{lent_read}
use Rattle.sums.specs.inner.Spaces.{space}
use Rattle.ranks.specs.inner.Step.{up_of}
use Rattle.ranks.proofs.Levels.{climbed}
use Rattle.estimates.specs.Sums.{terminal_input}
use Rattle.estimates.proofs.terminal.terminal_sum.Given as goal

abbrev pub invariant-loop-l : goal.invariant-loop-l
invariant-loop-l l =
    (l.v.n ≤ max_heap) × (up_of (space l.keys l.bottoms l.counts) l.v ≡ climbed l.ask (terminal_input (view (lent_read l.state))) (l.layers - l.l) l.l)
