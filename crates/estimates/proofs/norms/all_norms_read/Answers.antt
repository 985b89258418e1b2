-- `estimates::norms::all_norms_read` meets its contract.
use Rattle.std.proofs.Common.{◌∙◌, rules, arith}
use Rattle.std.proofs.lemmas.Iterator.{YieldsList-from_range}
use Rattle.std.proofs.lemmas.Iterator.Search.{all_from_yields_List}
use Rattle.estimates.specs.Calls.{all_norms_read}
use Rattle.estimates.specs.inner.Slices.{norms_read_in}
use Rattle.estimates.proofs.Layers.{norms_walk}
use Rattle.estimates.proofs.norms.all_norms_read.Goals as goal

pub returns : goal.returns
unfolding all_norms_read
returns c =
    let a = c.args in
    let n = a.header.shape.layers in
    all_from_yields_List (norms_read_in a.header.shape a.norms.now) _ _ c.all.result c.all.ensures.ran (YieldsList-from_range 0 n n (cc) (omega arith)) (λ l b q k. search rules)
    ∙ norms_walk a.header a.norms.now n 0 (omega arith)
