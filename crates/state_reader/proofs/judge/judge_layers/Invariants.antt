-- `state_reader::judge::judge_layers` meets its contract.
use Prim.Native.Nat.{◌-◌}
use mathlib.Core.Path.{◌≡◌}
use lib.ListN.{drop}
use Rattle.state_forms.specs.Grammar.{pages_r}
use Rattle.state_lines.specs.inner.Places.{forget}
use Rattle.state_text.specs.Pages.{frame_of}
use Rattle.state_reader.proofs.judge.judge_layers.Given as goal

abbrev pub invariant-loop-l : goal.invariant-loop-l
invariant-loop-l l = forget (pages_r (frame_of l.dims) l.l (l.l-end - l.l) (drop l.p l.s)) ≡ forget (pages_r (frame_of l.dims) 0 l.l-end (drop l.at l.s))
