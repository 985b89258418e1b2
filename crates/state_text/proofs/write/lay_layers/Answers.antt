-- `state_text::write::lay_layers` meets its contract.
use Prim.Native.Nat.{◌+◌, ◌-◌}
use Rattle.layout.specs.Slices.{view}
use Rattle.layout.specs.Lending.{lent_read}
use Rattle.layout.specs.inner.Lending.{layer_read}
use Rattle.state_forms.specs.Grammar.{page_format, pages_text}
use Rattle.state_forms.proofs.Layings.{going_start, going_on, going_room, going_end}
use Rattle.state_text.specs.Pages.{dims_of, frame_of, page_of, pages_of}
use Rattle.state_text.proofs.Writings.{layer_step, pages_none, pages_start}
use Rattle.state_text.proofs.write.lay_layers.Goals as goal

pub loop-l-init : goal.loop-l-init
loop-l-init c =
    let a = c.args in
    let sh = a.state.header.now.shape in
    going_start a.out.now a.at _ _ (pages_start (frame_of (dims_of sh)) (view (lent_read a.state)) sh.layers)

pub lay_layer-p-requires : goal.lay_layer-p-requires
lay_layer-p-requires c =
    let y = c.layer in
    let l = c.loop-l.l in
    let sh = c.args.state.header.now.shape in
    let k = frame_of (dims_of sh) in
    record {
      housed = y.ensures.housed;
      entries_len = y.ensures.entries_len;
      text_room = going_room ((page_format (frame_of y.result.dims) l).write (page_of y.result.dims (layer_read y.result))) (pages_text k (l + 1) (pages_of (view (lent_read c.args.state)) (sh.layers - (l + 1)) (l + 1))) c.loop-l.invariant (layer_step (lent_read c.args.state) l y.result.dims (layer_read y.result) c.requires.one_tiered c.loop-l-test.true y.ensures.dims y.ensures.layer) c.requires.text_room;
    }

pub loop-l-preserved : goal.loop-l-preserved
loop-l-preserved c =
    let y = c.layer in
    going_on c.loop-l.invariant (layer_step (lent_read c.args.state) c.loop-l.l y.result.dims (layer_read y.result) c.requires.one_tiered c.loop-l-test.true y.ensures.dims y.ensures.layer) c.lay_layer-p.ensures

pub returns : goal.returns
returns c = let sh = c.args.state.header.now.shape in going_end c.loop-l.invariant (pages_none (frame_of (dims_of sh)) (view (lent_read c.args.state)) sh.layers c.loop-l.l c.loop-l-test.false)
