-- `float64::heavy_threshold` meets its contract.
use mir.Syntax.{w64}
use Rattle.std.proofs.Common.{ap, ◌∙◌, to_z-of_z}
use borrow.Author.Rules.{sfits_of}
use lib.Ieee.{Float, binary64, div, to_signed}
use Rattle.float64.specs.Root.{root}
use Rattle.float64.specs.Cut.{heavy_threshold}
use Rattle.float64.proofs.heavy_threshold.Goals as goal

pub returns-then-complete : goal.returns-then-complete
unfolding heavy_threshold
returns-then-complete c = simp c.if-complete.true

pub returns : goal.returns
unfolding heavy_threshold
returns c =
    simp c.if-complete.false
    (to_z-of_z {w = w64} (sfits_of c.to_i64.type_inv) ∙ c.to_i64.ensures ∙ ap (λ (x : Float). to_signed 63 (div binary64 c.args.l2 x)) (c.sqrt.ensures ∙ ap root c.norm_to_f64.ensures))
