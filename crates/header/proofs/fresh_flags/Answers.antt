-- `header::fresh_flags` meets its contract.
use Rattle.std.proofs.Common.{false, true, replicate, refl, ap, ◌∙◌}
use Rattle.std.proofs.lemmas.List.{length-take-le, drop-replicate}
use Rattle.header.specs.Shape.{max_layers}
use Rattle.header.proofs.fresh_flags.Goals as goal

pub returns : goal.returns
returns c =
    let n = c.args.layers in
    let new = c.fill.ensures.after (λ b e. e) ∙ ap (λ k. replicate k true) (length-take-le n (replicate max_layers false) c.requires) in
    rw (new, drop-replicate n max_layers false) refl
