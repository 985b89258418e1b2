-- `state_forms::lay::lay_word` meets its contract.
use Prim.Native.Nat.{◌+◌}
use mathlib.Core.Path.{refl}
use mathlib.Core.List.{[], ◌∷◌}
use lib.ListN.{get_or, drop, drop_of_length-le}
use Rattle.state_forms.proofs.Layings.{going_start, going_on, going_room, going_end, byte_step}
use Rattle.state_forms.proofs.lay.lay_word.Goals as goal

pub loop-b-init : goal.loop-b-init
loop-b-init c = going_start c.args.out.now c.args.at c.args.word.now c.args.word.now refl

pub lay_byte-p-requires : goal.lay_byte-p-requires
lay_byte-p-requires c = going_room (get_or c.args.word.now c.loop-b.b-index 0 ∷ []) (drop (c.loop-b.b-index + 1) c.args.word.now) c.loop-b.invariant (byte_step c.args.word.now c.loop-b.b-index c.loop-b-test.true) c.requires

pub loop-b-preserved : goal.loop-b-preserved
loop-b-preserved c = going_on c.loop-b.invariant (byte_step c.args.word.now c.loop-b.b-index c.loop-b-test.true) c.lay_byte-p.ensures

pub returns : goal.returns
returns c = going_end c.loop-b.invariant (drop_of_length-le c.args.word.now c.loop-b-test.false)
