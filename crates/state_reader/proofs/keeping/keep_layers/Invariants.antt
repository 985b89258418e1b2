-- `state_reader::keeping::keep_layers` meets its contract.
use Prim.Native.Nat.{ℕ}
use mathlib.Core.Path.{◌≡◌}
use mathlib.Core.List.{List}
use lib.ListN.{drop}
use Rattle.layout.specs.Slices.{lent}
use Rattle.state_forms.specs.Formats.{got}
use Rattle.state_forms.specs.Grammar.{Page, pages_r}
use Rattle.state_text.specs.Pages.{frame_of, dims_of}
use Rattle.state_reader.proofs.Keepings.{Keeping}
use Rattle.state_reader.proofs.keeping.keep_layers.Given as goal

abbrev pub invariant-loop-l : goal.invariant-loop-l
invariant-loop-l l = (ps : List Page) (t : List ℕ) → pages_r (frame_of (dims_of l.initial.header.shape)) 0 l.initial.header.shape.layers (drop l.at l.s) ≡ got ps t
    → Keeping (lent l.initial.header l.initial.counters l.initial.norms l.initial.entries l.initial.counts) ps t (lent l.header l.counters l.norms l.entries l.counts) (drop l.p l.s) l.l
