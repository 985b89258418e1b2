-- `state_text::write::lay_layers` meets its contract.
use Prim.Native.Nat.{◌-◌}
use Rattle.layout.specs.Slices.{view}
use Rattle.layout.specs.Lending.{lent_read}
use Rattle.state_forms.specs.Grammar.{pages_text}
use Rattle.state_forms.proofs.Layings.{LaidSoFar}
use Rattle.state_text.specs.Pages.{dims_of, frame_of, pages_of}
use Rattle.state_text.proofs.write.lay_layers.Given as goal

abbrev pub invariant-loop-l : goal.invariant-loop-l
invariant-loop-l l =
    let s = view (lent_read l.state) in
    let sh = l.state.header.now.shape in
    let k = frame_of (dims_of sh) in
    LaidSoFar l.initial.out l.at (pages_text k 0 (pages_of s sh.layers 0)) l.out l.p (pages_text k l.l (pages_of s (sh.layers - l.l) l.l))
