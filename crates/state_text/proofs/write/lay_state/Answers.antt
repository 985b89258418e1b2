-- `state_text::write::lay_state` meets its contract.
use native.Mathlib.Omega.{arith}
use Rattle.layout.specs.Slices.{view}
use Rattle.layout.specs.Lending.{lent_read}
use Rattle.state_forms.proofs.Layings.{three_laid}
use Rattle.state_text.specs.Pages.{text_of}
use Rattle.state_text.proofs.Writings.{state-join, state-long}
use Rattle.state_text.proofs.write.lay_state.Goals as goal

pub lay_first-a-requires : goal.lay_first-a-requires
lay_first-a-requires c = omega (arith, c.requires.text_room, state-long (lent_read c.args.state))

pub lay_head-b-requires : goal.lay_head-b-requires
lay_head-b-requires c = rw c.mode_number-m.ensures (omega (arith, c.requires.text_room, state-long (lent_read c.args.state), c.lay_first-a.ensures.place))

pub lay_layers-requires : goal.lay_layers-requires
lay_layers-requires c =
    let e = rw c.mode_number-m.ensures at c.lay_head-b.ensures.place in
    record {
      one_tiered = c.requires.one_tiered;
      standing = c.requires.standing;
      text_room = omega (arith, c.requires.text_room, state-long (lent_read c.args.state), c.lay_first-a.ensures.place, e);
    }

pub returns : goal.returns
returns c =
    three_laid (text_of (view (lent_read c.args.state))) (state-join (lent_read c.args.state)) c.lay_first-a.ensures (rw c.mode_number-m.ensures at c.lay_head-b.ensures) c.lay_layers.ensures
