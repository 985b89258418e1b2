-- `state_reader::judge::judge_layers` meets its contract.
use Prim.Native.Nat.{suc, ◌+◌, ◌-◌}
use mathlib.Core.Path.{◌≡◌, ◌∙◌}
use lib.ListN.{drop}
use native.Mathlib.Omega.{arith}
use Rattle.state_text.specs.Pages.{frame_of, dims_of}
use Rattle.state_reader.proofs.Judging.{layer_bad, layer-next, layers_end}
use Rattle.state_reader.proofs.judge.judge_layers.Goals as goal
use Rattle.state_reader.proofs.judge.judge_layers.Goals.{In-loop-l}

one_more : (c : In-loop-l) → c.args.shape.layers - c.loop-l.l ≡ suc (c.args.shape.layers - (c.loop-l.l + 1))
one_more c = omega (arith, c.loop-l-test.true)

pub loop-l-init : goal.loop-l-init
loop-l-init c = let z : c.args.shape.layers - 0 ≡ c.args.shape.layers = omega arith in rw z

pub judge_page-requires : goal.judge_page-requires
judge_page-requires c =
    let a = c.requires in
    record {
      small = record { rows = omega (arith, a.mouse.few); cols = omega (arith, a.mouse.wide); size = a.small };
      size_in_bounds = (omega (arith, a.small), omega (arith, a.small));
    }

pub returns-in_err-p : goal.returns-in_err-p
returns-in_err-p c = rw c.from_residual.ensures (layer_bad (frame_of (dims_of c.args.shape)) c.loop-l.l (c.args.shape.layers - c.loop-l.l) (c.args.shape.layers - (c.loop-l.l + 1)) (one_more (goal.at.returns-in_err-p c).In-loop-l) (drop c.loop-l.p c.args.s.now) c.in_err-p.ensures ∙ c.loop-l.invariant)

pub loop-l-preserved : goal.loop-l-preserved
loop-l-preserved c = layer-next (frame_of (dims_of c.args.shape)) c.loop-l.l (c.args.shape.layers - c.loop-l.l) (c.args.shape.layers - (c.loop-l.l + 1)) (one_more (goal.at.loop-l-preserved c).In-loop-l) (drop c.loop-l.p c.args.s.now) (drop c.in_ok-p.p c.args.s.now) c.in_ok-p.ensures ∙ c.loop-l.invariant

pub returns : goal.returns
returns c = let z : c.args.shape.layers - c.loop-l.l ≡ 0 = omega (arith, c.loop-l-test.false) in layers_end (frame_of (dims_of c.args.shape)) c.loop-l.l (c.args.shape.layers - c.loop-l.l) (drop c.loop-l.p c.args.s.now) z ∙ c.loop-l.invariant
